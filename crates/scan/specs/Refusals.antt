-- The number, the place and the text of each refusal.
use Rattle.std.specs.Prelude.{ℕ, List, ◌++◌, codes}
use Rattle.std.specs.Fmt.{decimal}
use Rattle.scan.specs.declared.refusal.Refusal.{Refusal}
use Rattle.scan.specs.declared.refusal.Refusal.TheVariants.{Count, NotMultiple, NotRising, OutOfRange, SourceDistance, PanelDistance, SourceTooNear, ColumnBeyond, StepOutOfRange, OffCircle, DraftFull, NoView, StoreLength, BoxBounds}

-- The number of each refusal, by which it is known to users.
abbrev pub number : Refusal → ℕ
number (Count found least most) = 2
number (NotMultiple found n) = 2
number (NotRising edge before at) = 4
number (OutOfRange edge at) = 5
number (SourceDistance at) = 6
number (PanelDistance at source) = 6
number (SourceTooNear source widest) = 7
number (ColumnBeyond edge at panel) = 8
number (StepOutOfRange step directions) = 9
number (OffCircle direction heading) = 11
number (DraftFull views) = 21
number (NoView view views) = 22
number (StoreLength store found wanted) = 23
number (BoxBounds axis lower upper cells) = 24

-- The place of each refusal: the number of the edge that is refused, 0 for D and 1 for F, and 0 for all else.
abbrev pub place : Refusal → ℕ
place (Count found least most) = 0
place (NotMultiple found n) = 0
place (NotRising edge before at) = edge
place (OutOfRange edge at) = edge
place (SourceDistance at) = 0
place (PanelDistance at source) = 1
place (SourceTooNear source widest) = 0
place (ColumnBeyond edge at panel) = edge
place (StepOutOfRange step directions) = 0
place (OffCircle direction heading) = 0
place (DraftFull views) = 0
place (NoView view views) = 0
place (StoreLength store found wanted) = 0
place (BoxBounds axis lower upper cells) = 0

-- What is printed of a refusal.
abbrev pub refusal_text : Refusal → List ℕ
refusal_text refusal = codes "refused by " ++ decimal (number refusal) ++ codes " at place " ++ decimal (place refusal)
