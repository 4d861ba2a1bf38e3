-- What the reader of a plan keeps of the sections that it has read: for readers of the code. The calls' promises do not rest on it.
use Rattle.std.specs.Prelude.{◌≡◌, ℕ, List, ℤ}
use Rattle.planfile.specs.Numbers.{numbers_in}
use Rattle.planfile.specs.Sections.{section_at, entry, start}
use Rattle.planfile.specs.declared.axes.Axes.{Axes}

-- Of the first six sections: D and F, the edges of the five axes, and where the section of the columns begins.
pub record AxesOf (bytes : List ℕ) (axes : Axes) : Type 0 where
  pub source : axes.distances.source ≡ entry bytes (start bytes 0) 0
  pub panel : axes.distances.panel ≡ entry bytes (start bytes 0) 1
  pub x : numbers_in axes.x.numbers.bytes.now ≡ section_at bytes (start bytes 1)
  pub y : numbers_in axes.y.numbers.bytes.now ≡ section_at bytes (start bytes 2)
  pub z : numbers_in axes.z.numbers.bytes.now ≡ section_at bytes (start bytes 3)
  pub column : numbers_in axes.column.numbers.bytes.now ≡ section_at bytes (start bytes 4)
  pub row : numbers_in axes.row.numbers.bytes.now ≡ section_at bytes (start bytes 5)
  pub column_start : axes.column_start ≡ start bytes 4

-- Of the distances and axes that are checked together: D, F, and the edges of x, y and the columns.
pub record ClearedOf (bytes : List ℕ) (D F : ℤ) (x_edges y_edges column_edges : List ℤ) : Type 0 where
  pub source : D ≡ entry bytes (start bytes 0) 0
  pub panel : F ≡ entry bytes (start bytes 0) 1
  pub x : x_edges ≡ section_at bytes (start bytes 1)
  pub y : y_edges ≡ section_at bytes (start bytes 2)
  pub column : column_edges ≡ section_at bytes (start bytes 4)
