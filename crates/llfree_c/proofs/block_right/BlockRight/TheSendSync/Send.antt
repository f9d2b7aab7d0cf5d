use denote.Struct.Struct.{exits_of}
use denote.Struct.Owning.{shape, fields, to}
use denote.Param.Send.{IsSend, AllSend, owning_send, struct_send}
use Rattle.std_alloc.proofs.SendSync.{quiet}
use Rattle.atomic_table.proofs.Sent.{badge_keyless}
use Rattle.frame_table.specs.contracts.rule.Watch as eye
use Rattle.llfree_c.specs.contracts.block_right.BlockRight.{the_row, the_type}

pub send : IsSend the_row
send =
    let all : AllSend (fields the_type) = tt in
    owning_send the_type all (λ d. badge_keyless eye.the_row.coded.code d.badge.table_id d.badge.id d.badge.views)
    (λ k. quiet (to the_type) (exits_of k (fields the_type)) ((struct_send (shape the_type) all).leaving k))
