-- A spelling in three parts, as the contracts cite it.
use Rattle.std.specs.Prelude.{List, ◌++◌, ℕ}
use Rattle.spells.specs.declared.Spelling.{Spelling}

-- its parts end to end
abbrev pub spelled : Spelling → List ℕ
spelled s = s.prefix.now ++ (s.unit.now ++ s.suffix.now)
