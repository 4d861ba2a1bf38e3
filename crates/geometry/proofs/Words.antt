-- Sums and products of i64 as the code has them, where each step goes through its bits: what a step means, a bound of its size, and
-- that it fits.
use Rattle.std.proofs.Common.{◌≡◌, ℕ, ◌+◌, ◌*◌, ◌^◌, ◌<◌, ◌≤◌, ℤ, pos, ◌+ℤ◌, ◌-ℤ◌, ◌*ℤ◌, nat_abs, sym, refl, ap, ◌∙◌, subst, arith, w64, SFits, to_z, of_z}
use Rattle.std.proofs.lemmas.Int.{to_z-of_z}
use Rattle.geometry.proofs.Size.{times_within, plus_within, minus_within, within_fits}

-- z through its bits
abbrev pub again : ℤ → ℤ
again z = to_z w64 (of_z w64 z)

-- the code's operand X means M, whose size is at most A
pub record Reads (X M : ℤ) (A : ℕ) : Type 0 where
  pub is : X ≡ M
  pub within : nat_abs M ≤ A

-- the code's result X means M, whose size is at most A, and fits
pub record Makes (X M : ℤ) (A : ℕ) : Type 0 where
  pub is : X ≡ M
  pub within : nat_abs M ≤ A
  pub fits : SFits w64 X

pub lit : (n : ℕ) → Reads (pos n) (pos n) n
lit n = record { is = refl; within = omega arith }

-- an argument
pub arg : (x : ℤ) {A : ℕ} → nat_abs x ≤ A → A < 2 ^ 63 → Reads (again x) x A
arg x {A} h l = record { is = to_z-of_z w64 x (within_fits x A l h); within = h }

pub read : {X M : ℤ} {A : ℕ} → Makes X M A → Reads (again X) M A
read {X} m = record { is = to_z-of_z w64 X m.fits ∙ m.is; within = m.within }

-- what a function that returns X tells of it
pub returned : {X M : ℤ} {A B : ℕ} → Makes X M A → A ≤ B → record { value : again X ≡ M; within : nat_abs (again X) ≤ B }
returned {X} {M} {A} {B} m l =
    let r = read m in
    let h : nat_abs M ≤ B = omega (arith, m.within) in
    record { value = r.is; within = subst (λ z. nat_abs z ≤ B) (sym r.is) h }

module _ {X Y M N : ℤ} {A B : ℕ} (r : Reads X M A) (s : Reads Y N B) where
  made : (f : ℤ → ℤ → ℤ) (C : ℕ) → nat_abs (f M N) ≤ C → C < 2 ^ 63 → Makes (f X Y) (f M N) C
  made f C h t =
      let e : f X Y ≡ f M N = ap (λ z. f z Y) r.is ∙ ap (f M) s.is in
      record { is = e; within = h; fits = subst (SFits w64) (sym e) (within_fits (f M N) C t h) }

  pub times : A * B < 2 ^ 63 → Makes (X *ℤ Y) (M *ℤ N) (A * B)
  times = made ◌*ℤ◌ (A * B) (times_within M N A B r.within s.within)

  pub plus : A + B < 2 ^ 63 → Makes (X +ℤ Y) (M +ℤ N) (A + B)
  plus = made ◌+ℤ◌ (A + B) (plus_within M N A B r.within s.within)

  pub minus : A + B < 2 ^ 63 → Makes (X -ℤ Y) (M -ℤ N) (A + B)
  minus = made ◌-ℤ◌ (A + B) (minus_within M N A B r.within s.within)
