-- What is printed of a shadow, and of the answer to a file.
use Rattle.std.specs.Prelude.{ℕ, ◌*◌, ◌/◌, ◌%◌, List, [], ◌∷◌, ◌++◌, length, codes, Option, Some, None}
use Rattle.std.specs.Fmt.{decimal}
use Rattle.std.specs.List.{flat_map, range_with_len}
use Rattle.values.specs.Counts.{count_ops, count_text}
use Rattle.values.specs.declared.count.Count.{Count}
use Rattle.calls.specs.Stores.{at}
use Rattle.shadows.specs.Refusals.{refusal_text}
use Rattle.shadows.specs.declared.answer.Answer.{Answer}
use Rattle.shadows.specs.declared.refusal.Refusal.{Refusal}
use Rattle.shadows.specs.declared.shadow.Shadow.{Shadow}

-- The end of a line.
abbrev pub newline : List ℕ
newline = 10 ∷ []

-- The first line: the numbers of views, and of the rows and columns of the panel.
abbrev pub head_text : Shadow → List ℕ
head_text s = codes "views " ++ decimal s.views ++ codes " rows " ++ decimal s.rows ++ codes " columns " ++ decimal s.columns ++ newline

-- The line of a cell: its view, row and column, and its value as a signed number.
abbrev pub cell_text : ℕ → ℕ → ℕ → Count → List ℕ
cell_text view row column value = decimal view ++ codes " " ++ decimal row ++ codes " " ++ decimal column ++ codes " " ++ count_text value ++ newline

-- The line of the cell at place i: in a view the places go row by row, and in a row column by column.
abbrev pub place_text : Shadow → ℕ → List ℕ
place_text s i = cell_text (i / (s.rows * s.columns)) (i / s.columns % s.rows) (i % s.columns) (at count_ops s.cells.items i)

-- The lines of the cells at the first n places.
abbrev pub places_text : Shadow → ℕ → List ℕ
places_text s n = flat_map (place_text s) (range_with_len 0 n)

-- The last line: how many voxels are hit.
abbrev pub hit_text : Shadow → List ℕ
hit_text s = codes "hit " ++ decimal s.hit ++ newline

-- The whole text: the first line, a line for each cell, and the last line.
abbrev pub shadow_text : Shadow → List ℕ
shadow_text s = head_text s ++ places_text s (length s.cells.items) ++ hit_text s

-- What is printed where a file may be refused: the line of the refusal, or the text of the shadow.
abbrev pub text_by : Option Refusal → Shadow → List ℕ
text_by None shadow = shadow_text shadow
text_by (Some refusal) shadow = refusal_text refusal ++ newline

-- What the program prints of its answer.
abbrev pub answer_text : Answer → List ℕ
answer_text answer = text_by answer.refusal answer.shadow
