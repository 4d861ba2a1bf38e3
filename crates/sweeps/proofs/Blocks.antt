-- The tables of a block, and those of its columns.
use Rattle.std.proofs.Common.{◌≡◌, ℕ, ◌+◌, ◌*◌, ◌<◌, ◌≤ℤ◌, List, slice_index_or, ℤ, pos, sym, ap, ◌∙◌, ap₂, arith}
use Rattle.std.proofs.Math.Arith.{digits_div, digits_mod}
use Rattle.std.proofs.lemmas.Nat.{row_fits}
use Rattle.std.specs.Int.{int_min, int_max}
use Rattle.sweeps.proofs.Parts.{part, length_part, at_part}
use Rattle.scan.specs.Landing.{Landing}
use Rattle.sweeps.specs.Runs.{Rising}
use Rattle.sweeps.specs.Tables.{Tabled}
use Rattle.sweeps.specs.Passes.{ColumnOf, BlockOf}
use Rattle.sweeps.specs.declared.pass.Column.{Column}

-- a table of edges that rise is a list that rises
pub tabled_rising : (es : List ℤ) (n : ℕ) (f : ℕ → ℤ) → Tabled es (n + 1) f → ((i : ℕ) → f i ≤ℤ f (i + 1)) → Rising es
tabled_rising es n f t r i l = let len = t.0 in rw (t.1 i (omega arith), t.1 (i + 1) (omega arith)) (r i)

module _ {L : Landing} {first count : ℕ} {columns rows : List ℤ} (bo : BlockOf L first count columns rows) (d : ℕ) (below : d < count) where
  abbrev width : ℕ
  width = L.rows + 1

  -- the part of the table that is one column's
  abbrev edges : List ℤ
  edges = part (d * width) width rows

  pub part_tabled : Tabled edges width (L.T (first + d))
  part_tabled =
      let e = row_fits d width count width below (omega arith) in
      let f = bo.rows_are.0 in (
        length_part (d * width) width rows (omega arith),
        λ m h. at_part (d * width) width rows (pos 0) m h ∙ bo.rows_are.1 (d * width + m) (omega arith) ∙ ap₂ (λ k n. L.T (first + k) n) (digits_div d h) (digits_mod d h),
      )

  -- a column with that part, and with its stretch from the other table
  pub block_column : (c : Column) → c.number ≡ first + d → c.cells.start ≡ c.number → c.cells.stride ≡ L.columns
      → c.over.low ≡ int_min (slice_index_or columns d (pos 0)) (slice_index_or columns (d + 1) (pos 0))
      → c.over.high ≡ int_max (slice_index_or columns d (pos 0)) (slice_index_or columns (d + 1) (pos 0))
      → c.cells.edges.at.now ≡ edges → ColumnOf L c
  block_column c number is_start is_stride low high is_rows =
      let one : slice_index_or columns d (pos 0) ≡ L.S c.number = bo.columns_are.1 d (omega arith) ∙ ap L.S (sym number) in
      let next : first + (d + 1) ≡ c.number + 1 = omega arith in
      let other : slice_index_or columns (d + 1) (pos 0) ≡ L.S (c.number + 1) = bo.columns_are.1 (d + 1) (omega arith) ∙ ap L.S next in
      let limit = bo.below in
      record {
        below = omega arith;
        start = is_start;
        stride = is_stride;
        low = low ∙ ap₂ int_min one other;
        high = high ∙ ap₂ int_max one other;
        rows = rw (is_rows, number) part_tabled;
      }
