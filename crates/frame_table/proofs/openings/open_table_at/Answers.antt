use Rattle.std.proofs.Common.{◌≡◌, ap, ◌∙◌, refl, arith, rules, false}
use Rattle.frame_model.specs.declared.key.Key.{Key}
use Rattle.frame_table.specs.Openings.{unsealed_key}
use Rattle.frame_table.specs.Seats.{key_at}
use Rattle.frame_table.proofs.Dealing.{opens_at, unsealed_is_key}
use Rattle.frame_table.proofs.openings.open_table_at.Goals as goal

pub open_words-requires-clause-fits : goal.open_words-requires-clause-fits
open_words-requires-clause-fits c =
    let image = c.args.image.now in
    let laid = c.geometry.ensures.in_range in
    opens_at (record { image = c.of.result; ranges = c.of-2.result; sealed = false }) image c.of.ensures
    (ap (λ v. v.items) c.of-2.ensures ∙ c.new-none.ensures.items) refl (omega (arith, image.geometry.some_cores)) c.requires laid

pub returns-clause-opened : goal.returns-clause-opened
returns-clause-opened c =
    let key = unsealed_key c.args.image.now.geometry in
    let memory : key_at c.in_ok-table.table ≡ key = search rules in
    record {
      memory = memory;
      is_key = unsealed_is_key c.args.image.now.geometry;
      count = omega (arith, c.deal-seats.ensures.count, ap (λ (k : Key). k.cores) memory);
      each = c.deal-seats.ensures.new;
    }
