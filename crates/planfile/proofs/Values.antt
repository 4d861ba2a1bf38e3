-- The values of voxels.
use Rattle.std.specs.Prelude.{◌≡◌, ℕ, suc, ◌<◌, List, [], ◌∷◌, map, length, ℤ, slice_index_or, None}
use Rattle.std.proofs.Common.{refl, ap, ap₂, arith}
use Rattle.values.specs.Counts.{counted}
use Rattle.values.specs.declared.count.Count.{Count}
use Rattle.scan.specs.AxisChecks.{edge_or_zero}
use Rattle.planfile.specs.Sections.{section_at}
use Rattle.planfile.specs.FileChecks.{section_check}
use Rattle.values.specs.Counts.{count_of}
use Rattle.planfile.proofs.SectionFacts.{section_count}
use Rattle.planfile.proofs.SectionChecks.{section_known}

-- a store that holds at each place the Count of a number holds the Counts of the numbers
pub by_place : (zs : List ℤ) (volume : List Count) → length volume ≡ length zs → ((k : ℕ) → k < length volume → slice_index_or volume k (counted 0) ≡ count_of (edge_or_zero zs k)) → volume ≡ map count_of zs
by_place [] [] long h = refl
by_place [] (v ∷ volume) long h = absurd (omega arith)
by_place (z ∷ zs) [] long h = absurd (omega arith)
by_place (z ∷ zs) (v ∷ volume) long h = ap₂ (λ x xs. x ∷ xs) (h 0 (omega arith)) (by_place zs volume (omega arith) (λ k l. h (suc k) (omega arith)))

-- values that nothing refuses are as many as was asked for
pub values_long : (bytes : List ℕ) (p n : ℕ) (zs : List ℤ) → section_check bytes p n n ≡ None → zs ≡ section_at bytes p → length zs ≡ n
values_long bytes p n zs e same =
    let known = section_known bytes p n n e in
    omega (arith, ap length same, section_count bytes p, known.0, known.1)
