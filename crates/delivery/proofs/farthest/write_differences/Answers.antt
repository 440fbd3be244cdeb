-- `farthest::write_differences` meets its contract: one law of `Room/Laws.antt` for each goal. Assumes nothing.
use Rattle.delivery.proofs.Theorems.Room.Laws.{setting_none, setting_more, setting_all, room-count, part-enough}
use Rattle.delivery.proofs.Theorems.Room.Laws.{part_few, part_count, figures_of_part, cone_in_range, difference-small}
use Rattle.delivery.proofs.Theorems.Room.Laws.{difference_at}
use Rattle.delivery.proofs.farthest.write_differences.Goals as goal

pub loop-i-init : goal.loop-i-init
loop-i-init c = setting_none _ _ (part-enough c.requires c.len.ensures)

pub difference_from-d-requires : goal.difference_from-d-requires
difference_from-d-requires c =
    cone_in_range c.requires c.loop-i.i (part_few c.requires c.len.ensures c.loop-i-test.true) c.colour.ensures

pub figure_of-requires : goal.figure_of-requires
figure_of-requires c =
    difference-small c.requires c.loop-i.i (part_few c.requires c.len.ensures c.loop-i-test.true) c.colour.ensures
    c.difference_from-d.ensures

pub loop-i-preserved : goal.loop-i-preserved
loop-i-preserved c =
    let few = part_few c.requires c.len.ensures c.loop-i-test.true in
    setting_more _ _ (part-enough c.requires c.len.ensures) c.loop-i.invariant _ (rw (room-count c.requires) few)
    (difference_at c.requires c.loop-i.i few c.colour.ensures c.difference_from-d.ensures) c.figure_of.ensures
    c.farther-far.ensures

pub returns : goal.returns
returns c =
    figures_of_part c.requires c.len.ensures
    (setting_all _ _ (part-enough c.requires c.len.ensures) c.loop-i.invariant
    (part_count c.requires c.len.ensures c.loop-i-test.false))
