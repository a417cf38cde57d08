-- `intern::intern` meets its contract: what is found has its number, what is not is added; the table is never full.
use mathlib.Core.Path.{sym, ◌∙◌}
use Rattle.intern.specs.Intern.{Answer}
use Rattle.intern.proofs.Interning.{to_add, gave_old, look_not_full}
use Rattle.intern.proofs.intern.Goals as goal

pub add-requires : goal.add-requires
add-requires c = let p = c.requires in
    to_add _ _ _ _ _ _ _ _ p.ok p.space _ _ c.find.ensures c.in-Vacant.is

pub returns-in-At : goal.returns-in-At
unfolding Answer
returns-in-At c = gave_old _ _ _ _ _ _ _ _ c.requires.ok _ _ c.find.ensures c.in-At.is

pub returns-in-Full : goal.returns-in-Full
unfolding Answer
returns-in-Full c = let p = c.requires in
    absurd (look_not_full _ _ _ _ _ _ _ _ p.ok p.space (sym c.find.ensures ∙ c.in-Full.is))
