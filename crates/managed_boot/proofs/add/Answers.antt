-- `managed_boot::add` meets its contract: a range, a level, or no resource that is built.
-- Assumes nothing.
use Rattle.facts.proofs.Words.{ap, ◌∙◌}
use Rattle.managed_changes.specs.{number}
use Rattle.managed_boot.proofs.{range_adds, level_adds}
use Rattle.managed_boot.proofs.add.Goals as goal

pub returns-in-Ok-Io : goal.returns-in-Ok-Io
returns-in-Ok-Io c = range_adds _ _ _ c.add.result (c.in-Ok-Io.ensures ∙ ap number c.in-Ok-Io.field-0-is) c.add.ensures

pub returns-in-Ok-Irq : goal.returns-in-Ok-Irq
returns-in-Ok-Irq c = level_adds _ _ _ c.add-in-Ok-Irq.result (c.in-Ok-Irq.ensures ∙ ap number c.in-Ok-Irq.field-0-is) c.add-in-Ok-Irq.ensures
