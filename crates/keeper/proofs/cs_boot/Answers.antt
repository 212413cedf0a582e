-- `keeper::cs_boot` meets its contract: the table is not well formed, or the list's rule rules.
-- Assumes nothing.
use Rattle.keeper.proofs.{boot_unformed, low_place}
use Rattle.keeper.proofs.cs_boot.Goals as goal

pub returns-in_default : goal.returns-in_default
returns-in_default c = boot_unformed c.args.table.now c.in_default.ensures.1 c.args.records.now c.pack.result c.pack.ensures

pub pack-requires-2 : goal.pack-requires-2
pack-requires-2 c =
    low_place c.args.records.now c.args.table.now c.boot.new.t c.boot.result c.boot.ensures
