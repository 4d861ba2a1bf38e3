-- What the check of a section finds.
use Rattle.std.specs.Prelude.{◌≡◌, ℕ, zero, suc, ◌+◌, ◌*◌, ◌%◌, ◌≤◌, Bool, List, length, ℤ, Option, None, nat_lt}
use Rattle.std.specs.Option.{option_or, option_map}
use Rattle.std.proofs.Common.{refl, arith}
use Rattle.std.proofs.lemmas.Bool.{ltb-false, le-ltb, eqb-true, not-false}
use Rattle.scan.specs.Verdicts.{first_where}
use Rattle.scan.proofs.Firsts.{first_none}
use Rattle.planfile.specs.Numbers.{count_at}
use Rattle.planfile.specs.Sections.{end_of}
use Rattle.planfile.specs.Faults.{refused_at}
use Rattle.planfile.specs.FileChecks.{whole_check, limits_check, numbers_check, section_check, even_check, pairs_check}
use Rattle.planfile.specs.declared.fault.Fault.{Fault}
use Rattle.planfile.specs.declared.fault.Fault.TheVariants.{Incomplete}
use Rattle.planfile.proofs.NumberChecks.{all_whole}
use Rattle.planfile.proofs.Nones.{none_or, first_nothing, second_nothing, none_map, map_none, none_where, where_none, count_fits}
use Rattle.scan.proofs.Propers.{count_within}
use Rattle.planfile.proofs.SectionFacts.{Stands}

-- numbers that are whole are all there
numbers_there : (bytes : List ℕ) (p n : ℕ) → p ≤ length bytes → numbers_check bytes p n ≡ None → p + 4 * n ≤ length bytes
numbers_there bytes p zero l e = omega arith
numbers_there bytes p (suc n) l e =
    let test : ℕ → Bool = λ i. nat_lt (length bytes) (p + 4 * i + 4) in
    let none = map_none (λ i. Incomplete (p + 4 * i)) (first_where test (suc n)) e in
    let last = ltb-false _ _ (first_none test (suc n) none n (omega arith)) in
    omega arith

-- a count that stands at a place, within its limits, has no fault
limits_pass : {bytes : List ℕ} {p : ℕ} {zs : List ℤ} {rest : List ℕ} (least most : ℕ) → Stands bytes p zs rest → least ≤ length zs → length zs ≤ most → limits_check bytes p least most ≡ None
limits_pass {bytes} {p} {zs} least most stands l m =
    none_or (none_where (Incomplete p) (le-ltb (length bytes) (p + 4) (omega (arith, stands.whole))))
    (rw stands.count (none_map (refused_at p) (count_fits (length zs) least most l m)))

-- so do its numbers
numbers_pass : {bytes : List ℕ} {p : ℕ} {zs : List ℤ} {rest : List ℕ} → Stands bytes p zs rest → numbers_check bytes (p + 4) (count_at bytes p) ≡ None
numbers_pass {bytes} {p} {zs} stands = rw stands.count (all_whole bytes (p + 4) (length zs) stands.whole)

-- a section that stands at a place, with a count within its limits, has no fault
pub section_passes : {bytes : List ℕ} {p : ℕ} {zs : List ℤ} {rest : List ℕ} (least most : ℕ) → Stands bytes p zs rest → least ≤ length zs → length zs ≤ most → section_check bytes p least most ≡ None
unfolding section_check
section_passes least most stands l m = none_or (limits_pass least most stands l m) (numbers_pass stands)

-- nor has one whose count is even, as a section of pairs
pub pairs_pass : {bytes : List ℕ} {p : ℕ} {zs : List ℤ} {rest : List ℕ} (most : ℕ) → Stands bytes p zs rest → length zs % 2 ≡ 0 → length zs ≤ most → pairs_check bytes p most ≡ None
unfolding pairs_check
pairs_pass {bytes} {p} {zs} most stands even m =
    none_or (limits_pass 0 most stands (omega arith) m)
    (none_or (none_map (refused_at p) (rw (stands.count, even) refl)) (numbers_pass stands))

-- a section of pairs that has no fault has none as a section, and its count is even
pub pairs_known : (bytes : List ℕ) (p most : ℕ) → pairs_check bytes p most ≡ None → (section_check bytes p 0 most ≡ None) × (count_at bytes p % 2 ≡ 0)
unfolding section_check pairs_check
pairs_known bytes p most e =
    let limits = limits_check bytes p 0 most in
    let odd : Option Fault = option_map (refused_at p) (even_check (count_at bytes p)) in
    let numbers = numbers_check bytes (p + 4) (count_at bytes p) in
    let rest = second_nothing limits (option_or odd numbers) e in
    let even = map_none (refused_at p) (even_check (count_at bytes p)) (first_nothing odd numbers rest) in
    (none_or {a = limits} {b = numbers} (first_nothing limits (option_or odd numbers) e) (second_nothing odd numbers rest), eqb-true _ 0 (not-false _ (where_none _ _ even)))

-- a section that has no fault has a count within its limits, and is whole
pub section_known : (bytes : List ℕ) (p least most : ℕ) → section_check bytes p least most ≡ None → (least ≤ count_at bytes p) × (count_at bytes p ≤ most) × (end_of bytes p ≤ length bytes)
unfolding section_check end_of
section_known bytes p least most e =
    let n = count_at bytes p in
    let limits = first_nothing (limits_check bytes p least most) _ e in
    let some = ltb-false _ _ (where_none _ _ (first_nothing (whole_check bytes p) _ limits)) in
    let count = count_within n least most (map_none (refused_at p) _ (second_nothing (whole_check bytes p) _ limits)) in
    (count.0, count.1, numbers_there bytes (p + 4) n some (second_nothing (limits_check bytes p least most) _ e))
