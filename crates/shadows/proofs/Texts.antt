-- The lines of a shadow, one more at a time.
use Rattle.std.proofs.Common.{◌≡◌, ℕ, ◌+◌, ◌*◌, ◌/◌, ◌%◌, ◌<◌, List, ◌∷◌, [], ◌++◌, length, get_or, sym, ap, ◌∙◌, append_assoc, mul_comm, arith}
use Rattle.std.specs.List.{flat_map, range_with_len}
use Rattle.std.proofs.Math.Nat.{div-div-eq-div-mul}
use Rattle.std.proofs.lemmas.List.{flat_map_more, map-id, get_or_read}
use Rattle.std.proofs.lemmas.List.FromFn.{map-range_with_len_more}
use Rattle.values.specs.declared.count.Count.{Count}
use Rattle.values.specs.Counts.{count_ops}
use Rattle.calls.specs.Stores.{at}
use Rattle.shadows.specs.declared.shadow.Shadow.{Shadow}
use Rattle.shadows.specs.Texts.{head_text, cell_text, place_text, places_text, hit_text, shadow_text}

range_more : (n : ℕ) → range_with_len 0 (n + 1) ≡ range_with_len 0 n ++ n ∷ []
range_more n = sym (map-id _) ∙ map-range_with_len_more (λ i. i) 0 n n (omega arith) ∙ ap (λ l. l ++ n ∷ []) (map-id _)

module _ (s : Shadow) (n : ℕ) where
  -- the code divides by the columns and then by the rows
  place_is : {xs : List Count} (value : Count) → xs ≡ s.cells.items → n < length xs → value ≡ get_or xs n value → cell_text (n / s.columns / s.rows) (n / s.columns % s.rows) (n % s.columns) value ≡ place_text s n
  place_is {xs = xs} value cells l read =
      let view : n / s.columns / s.rows ≡ n / (s.rows * s.columns) = div-div-eq-div-mul n s.columns s.rows ∙ ap (λ k. n / k) (mul_comm s.columns s.rows) in
      let there : value ≡ at count_ops s.cells.items n = get_or_read xs n value l read count_ops.zero ∙ ap (λ ys. at count_ops ys n) cells in
      ap (λ v. cell_text v (n / s.columns % s.rows) (n % s.columns) value) view ∙ ap (cell_text (n / (s.rows * s.columns)) (n / s.columns % s.rows) (n % s.columns)) there

  -- one line more
  pub places_more : {xs : List Count} (value : Count) → xs ≡ s.cells.items → n < length xs → value ≡ get_or xs n value
      → (head_text s ++ places_text s n) ++ cell_text (n / s.columns / s.rows) (n / s.columns % s.rows) (n % s.columns) value ≡ head_text s ++ places_text s (n + 1)
  places_more value cells l read =
      append_assoc (head_text s) (places_text s n) _
      ∙ ap (λ t. head_text s ++ t) (ap (λ t. places_text s n ++ t) (place_is value cells l read) ∙ flat_map_more (place_text s) [] (range_with_len 0 n) n ∙ ap (flat_map (place_text s)) (sym (range_more n)))

  -- after the last
  pub places_end : n ≡ length s.cells.items → head_text s ++ places_text s n ++ hit_text s ≡ shadow_text s
  places_end all = ap (λ k. head_text s ++ places_text s k ++ hit_text s) all
