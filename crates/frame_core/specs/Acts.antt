-- Which kind of step a step as data is, and which word it changes.
use Rattle.std.specs.Prelude.{ℕ}
use Rattle.frame_core.specs.declared.step.Step.{Step}
use Rattle.frame_core.specs.declared.step.Step.TheVariants.{Charge, Refund, Claim, ClaimSingles, Release, TakeHuge, GiveHuge, TreePay, TreeRefund, Reserve, SwapLocal, Unreserve, LocalPay, LocalRefund, Collect, FillWord, DropFlag}
use Rattle.frame_model.specs.declared.place.Place.{Place}
use Rattle.frame_model.specs.declared.place.Place.TheVariants.{Entry, Bits, Tree, Local}
use Rattle.frame_model.specs.Steps.{Kind, charge, refund, claim, claim_singles, take_huge, tree_pay, tree_refund, reserve, swap_local, unreserve, local_pay, local_refund, collect, fill_word}
use Rattle.frame_core.specs.Moves.{release_run, give_whole, drop_whole}

-- the kind of the step, by what was seen
abbrev pub kind_of : Step → ℕ → Kind
kind_of (Charge child n) seen = charge child seen n
kind_of (Refund child n) seen = refund child n
kind_of (Claim word bit order) seen = claim word seen bit order
kind_of (ClaimSingles word mask) seen = claim_singles word seen mask
kind_of (Release word bit order) seen = release_run word bit order
kind_of (TakeHuge child) seen = take_huge child seen
kind_of (GiveHuge child) seen = give_whole child
kind_of (TreePay tree n) seen = tree_pay tree seen n
kind_of (TreeRefund tree n) seen = tree_refund tree n
kind_of (Reserve tree) seen = reserve tree seen
kind_of (SwapLocal core put) seen = swap_local core put
kind_of (Unreserve tree n) seen = unreserve tree n
kind_of (LocalPay core n) seen = local_pay core seen n
kind_of (LocalRefund core n) seen = local_refund core seen n
kind_of (Collect tree) seen = collect tree seen
kind_of (FillWord word) seen = fill_word word
kind_of (DropFlag child) seen = drop_whole child

-- the word that it changes
abbrev pub place_in : Step → Place
place_in (Charge child n) = Entry child
place_in (Refund child n) = Entry child
place_in (Claim word bit order) = Bits word
place_in (ClaimSingles word mask) = Bits word
place_in (Release word bit order) = Bits word
place_in (TakeHuge child) = Entry child
place_in (GiveHuge child) = Entry child
place_in (TreePay tree n) = Tree tree
place_in (TreeRefund tree n) = Tree tree
place_in (Reserve tree) = Tree tree
place_in (SwapLocal core put) = Local core
place_in (Unreserve tree n) = Tree tree
place_in (LocalPay core n) = Local core
place_in (LocalRefund core n) = Local core
place_in (Collect tree) = Tree tree
place_in (FillWord word) = Bits word
place_in (DropFlag child) = Entry child
