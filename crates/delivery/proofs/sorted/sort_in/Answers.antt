-- `sorted::sort_in` meets its contract: one law of `Sorted/Ways.antt` for each way out. Assumes nothing.
use Rattle.delivery.proofs.Theorems.Sorted.Ways.{gives_refused, can_share, has_room, gives_whole}
use Rattle.delivery.proofs.sorted.sort_in.Goals as goal

pub returns-in-Err : goal.returns-in-Err
returns-in-Err c =
    gives_refused c.args.white c.requires c.sum_of.ensures c.in-Err.is c.refused.ensures

-- ---- every cone accepted

pub mean_colour-mean-requires : goal.mean_colour-mean-requires
mean_colour-mean-requires c = can_share c.args.white c.requires c.sum_of.ensures c.in-Ok.is c.len-n.ensures

pub write_differences-far-requires : goal.write_differences-far-requires
write_differences-far-requires c =
    has_room c.args.white c.requires c.sum_of.ensures c.in-Ok.is c.len-n.ensures c.mean_colour-mean.ensures

pub returns-in-Ok : goal.returns-in-Ok
returns-in-Ok c =
    gives_whole c.args.white c.requires c.sum_of.ensures c.in-Ok.is c.len-n.ensures c.mean_colour-mean.ensures
    c.write_differences-far.ensures c.value.ensures c.value-in-Ok.ensures c.value-in-Ok-2.ensures
