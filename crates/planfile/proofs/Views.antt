-- Views added one after the other.
use Rattle.std.specs.Prelude.{◌≡◌, ℕ, ◌+◌, ◌<◌, ◌≤◌, List, [], ◌∷◌, ◌++◌, map, take, length, ℤ, pos, Bool, None, unsigned_abs}
use Rattle.std.proofs.Common.{sym, ap, ◌∙◌, append_assoc, arith}
use Rattle.std.proofs.lemmas.Bool.Decides.{nat_tests}
use Rattle.std.proofs.lemmas.List.{append-nil, map-append, take_more, length-append, length-map, length-take-le}
use Rattle.scan.specs.Scans.{Scan, with_view, with_views}
use Rattle.scan.specs.DraftChecks.{no_step, view_check}
use Rattle.scan.proofs.Firsts.{first_none}
use Rattle.scan.specs.declared.refusal.Refusal.TheVariants.{StepOutOfRange, DraftFull}
use Rattle.planfile.proofs.Nones.{none_or, none_where}
use Rattle.planfile.specs.FileChecks.{first_no_step}
use Rattle.scan.specs.AxisChecks.{edge_or_zero}

-- none at first
pub no_views : (scan : Scan) → scan ≡ with_views scan []
no_views scan = ap (λ steps. record scan { steps = steps }) (sym (append-nil scan.steps))

-- one more after those so far
pub more_views : (scan : Scan) (zs : List ℤ) (i : ℕ) → i < length zs → with_view (with_views scan (map unsigned_abs (take i zs))) (unsigned_abs (edge_or_zero zs i)) ≡ with_views scan (map unsigned_abs (take (i + 1) zs))
more_views scan zs i l =
    ap (λ steps. record scan { steps = steps })
    (append_assoc scan.steps (map unsigned_abs (take i zs)) (unsigned_abs (edge_or_zero zs i) ∷ [])
    ∙ ap (λ steps. scan.steps ++ steps) (sym (map-append unsigned_abs (take i zs) (edge_or_zero zs i ∷ [])) ∙ ap (map unsigned_abs) (sym (take_more zs i (pos 0) l))))

-- so many views more
pub views_so_far : (scan : Scan) (zs : List ℤ) (i : ℕ) → i ≤ length zs → length (with_views scan (map unsigned_abs (take i zs))).steps ≡ length scan.steps + i
views_so_far scan zs i l =
    omega (arith, length-append scan.steps (map unsigned_abs (take i zs)), length-map (take i zs) unsigned_abs, length-take-le i zs l)

-- nothing is found of a step where nothing is found of all, and there is room
pub view_passes : (zs : List ℤ) (i views directions : ℕ) → first_no_step directions zs ≡ None → i < length zs → views < 1024 → view_check views directions (edge_or_zero zs i) ≡ None
view_passes zs i views directions none l room =
    let test : ℕ → Bool = λ k. no_step directions (edge_or_zero zs k) in
    let step = first_none test (length zs) none i l in
    none_or (none_where (StepOutOfRange (edge_or_zero zs i) directions) step) (none_where (DraftFull views) (grind (arith, nat_tests)))
