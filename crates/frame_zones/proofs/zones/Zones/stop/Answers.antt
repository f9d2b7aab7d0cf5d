use Rattle.std.proofs.Common.{rules, ◌≡◌, List, length, sym, subst}
use Rattle.frame_zones.specs.Stops.{AreStopped}
use Rattle.frame_zones.specs.declared.image.ZoneImage.{ZoneImage}
use Rattle.frame_zones.proofs.Stopped.{IsStopping, core_of_last, room_of_last, stopping_one, stopping_all}
use Rattle.frame_zones.proofs.zones.Zones.stop.Goals as goal

pub stop-image-requires-clause-core : goal.stop-image-requires-clause-core
stop-image-requires-clause-core c =
    core_of_last c.args.self c.args.core c.args.room.words.items c.loop-zone.zones.items c.pop.new.self.items c.loop-zone.firsts.items
    c.loop-zone.cores.items c.pop-in-Some-2.new.self.items c.loop-zone.words.items c.loop-zone.images.items c.in-Some.zone
    c.in-Some-pop-2.part c.requires.core c.loop-zone.invariant.stopping c.in-Some.ensures.items c.in-Some-pop-2.ensures.items

pub stop-image-requires-clause-room : goal.stop-image-requires-clause-room
stop-image-requires-clause-room c =
    room_of_last c.args.self c.args.core c.args.room.words.items c.loop-zone.zones.items c.pop.new.self.items c.loop-zone.firsts.items
    c.loop-zone.cores.items c.loop-zone.words.items c.pop-in-Some-3.new.self.items c.loop-zone.images.items c.in-Some.zone
    c.in-Some-pop-3.room c.requires.room.words c.loop-zone.invariant.stopping c.in-Some.ensures.items c.in-Some-pop-3.ensures.items

pub loop-zone-preserved : goal.loop-zone-preserved
loop-zone-preserved c = record {
  stopping =
      subst (λ (l : List ZoneImage). IsStopping c.args.self c.args.core c.args.room.words.items c.pop.new.self.items
      c.pop-in-Some.new.self.items c.pop-in-Some-2.new.self.items c.pop-in-Some-3.new.self.items l)
      (sym c.push_reserved.ensures.items)
      (stopping_one c.args.self c.args.core c.args.room.words.items c.loop-zone.zones.items c.pop.new.self.items c.loop-zone.firsts.items
      c.pop-in-Some.new.self.items c.loop-zone.cores.items c.pop-in-Some-2.new.self.items c.loop-zone.words.items
      c.pop-in-Some-3.new.self.items c.loop-zone.images.items c.in-Some.zone c.in-Some-pop-2.part c.in-Some-pop-3.room
      (record { first = c.in-Some-pop.first; image = c.stop-image.result }) c.loop-zone.invariant.stopping c.in-Some.ensures.items
      c.in-Some-pop.ensures.items c.in-Some-pop-2.ensures.items c.in-Some-pop-3.ensures.items c.stop-image.ensures);
  room = search rules;
}

pub returns : goal.returns
returns c =
    let none : length c.loop-zone.zones.items ≡ 0 = search rules in
    subst (λ (l : List ZoneImage). AreStopped c.args.self c.args.core l) (sym c.reverse.ensures.items)
    (stopping_all c.args.self c.args.core c.args.room.words.items c.loop-zone.zones.items c.loop-zone.firsts.items c.loop-zone.cores.items
    c.loop-zone.words.items c.loop-zone.images.items c.loop-zone.invariant.stopping none)
