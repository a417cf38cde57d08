-- The place of each mark among the binary digits of a pair's marks.
use Rattle.std.specs.Prelude.{ℕ}
use Rattle.marks.specs.Marks.{touched, gained, blocked}
use Rattle.marks.specs.declared.Mark.{Mark}
use Rattle.marks.specs.declared.Mark.TheVariants.{Touched, Gained, Blocked}

abbrev pub place : Mark → ℕ
place Touched = touched
place Gained = gained
place Blocked = blocked
