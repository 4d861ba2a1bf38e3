-- The front of a file: what comes after the longest file of which a shadow can be made makes no difference.
use Rattle.std.specs.Prelude.{◌≡◌, ℕ, ◌≤◌, List, length, take, None}
use Rattle.std.specs.Option.{option_map}
use Rattle.std.proofs.Common.{sym, ap, ap₂, arith, ⊎_elim}
use Rattle.std.proofs.lemmas.Bool.{cases_lt}
use Rattle.std.proofs.lemmas.Bool.Decides.{nat_tests}
use Rattle.std.proofs.lemmas.List.{take_all}
use Rattle.scan.specs.Scans.{Scan, voxels_of, places_of}
use Rattle.planfile.specs.Sections.{start}
use Rattle.planfile.specs.FileChecks.{plan_check, voxels_check}
use Rattle.planfile.specs.Plans.{scan_in}
use Rattle.planfile.proofs.Agreements.{Agree, and_then, made_of, noting}
use Rattle.planfile.proofs.Nones.{none_or, none_map}
use Rattle.planfile.proofs.Fronts.{SameFront, SamePlan, front_of, itself, plans_agree, voxels_agree}
use Rattle.shadows.specs.declared.refusal.Refusal.TheVariants.{File}
use Rattle.shadows.specs.Shadows.{size_check, shadow_check}
use Rattle.shadows.proofs.Longest.{longest_end}

-- a plan that is not too large has at most 4,096 voxels, and as many cells over all its views
few_places : (scan : Scan) (p : ℕ) → size_check scan p ≡ None → (voxels_of scan ≤ 4096) × (places_of scan ≤ 4096)
few_places scan p none = (grind (arith, nat_tests), grind (arith, nat_tests))

-- the check of the size finds the same of the same plan
sizes_agree : {bytes other : List ℕ} → SamePlan bytes other → Agree (size_check (scan_in bytes) (start bytes 8)) (size_check (scan_in other) (start other 8)) ((voxels_of (scan_in bytes) ≤ 4096) × (places_of (scan_in bytes) ≤ 4096))
sizes_agree {bytes} plan = record { same = ap₂ size_check plan.scan plan.voxels; known = few_places (scan_in bytes) (start bytes 8) }

-- the check of a file finds the same where the front takes in one byte more than the longest file, and then it finds something
shadows_agree : {bytes other : List ℕ} → SameFront 30841 bytes other → Agree (shadow_check bytes) (shadow_check other) ⊥
unfolding shadow_check
shadows_agree {bytes} {other} front =
    and_then _ _ (made_of File (noting (plans_agree front (omega arith)))) (λ plan.
    and_then _ _ (sizes_agree plan.0) (λ few.
    let end = longest_end bytes plan.1 few.0 few.1 in
    rw (← plan.0.scan) (made_of File (voxels_agree front _ _ (voxels_of (scan_in bytes)) plan.0.voxels (omega arith)))))

-- where nothing is found of the plan, of its size and of its voxels, nothing is found of the file
pub nothing_refused : (bytes : List ℕ) (scan : Scan) (p : ℕ) → plan_check bytes ≡ None → scan ≡ scan_in bytes → p ≡ start bytes 8 → size_check scan p ≡ None → option_map File (voxels_check bytes p (voxels_of scan)) ≡ None → shadow_check bytes ≡ None
unfolding shadow_check
nothing_refused bytes scan p plan same begins size voxels = none_or (none_map File plan) (none_or (rw (same, begins) at size) (rw (same, begins) at voxels))

-- no shadow is made of more than 30,840 bytes
pub longest : (bytes : List ℕ) → shadow_check bytes ≡ None → length bytes ≤ 30840
longest bytes none =
    ⊎_elim
    (λ short. omega arith)
    (λ long. absurd ((shadows_agree (itself 30841 bytes long)).known none))
    (cases_lt (length bytes) 30841)

-- the check of a file finds the same in its first 30,841 bytes
pub front : (bytes : List ℕ) → shadow_check bytes ≡ shadow_check (take 30841 bytes)
front bytes =
    ⊎_elim
    (λ short. ap shadow_check (sym (take_all 30841 bytes (omega arith))))
    (λ long. (shadows_agree (front_of 30841 bytes long)).same)
    (cases_lt (length bytes) 30841)
