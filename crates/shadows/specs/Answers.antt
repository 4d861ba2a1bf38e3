-- The answer to a file.
use Rattle.std.specs.Prelude.{◌≡◌, ℕ, List, Option, Some, None}
use Rattle.planfile.specs.Sections.{start}
use Rattle.planfile.specs.Plans.{scan_in, values_in}
use Rattle.shadows.specs.Shadows.{shadow_check, ShadowOf, Blank as BlankShadow}
use Rattle.shadows.specs.declared.refusal.Refusal.{Refusal}
use Rattle.shadows.specs.declared.shadow.Shadow.{Shadow}
use Rattle.shadows.specs.declared.answer.Answer.{Answer}

-- What the shadow is after an answer: that of the file, or what it was where the file is refused.
abbrev pub Shown : Option Refusal → List ℕ → Shadow → Shadow → Type 0
Shown None bytes old new = ShadowOf (scan_in bytes) (values_in bytes (start bytes 8)) new
Shown (Some refusal) bytes old new = new ≡ old

-- The answer to a file tells its refusal, if any, and shows its shadow, if it has one.
pub record Answers (bytes : List ℕ) (old new : Answer) : Type 0 where
  pub refusal : new.refusal ≡ shadow_check bytes
  pub shadow : Shown (shadow_check bytes) bytes old.shadow new.shadow

-- A blank answer, before a file is read.
pub record Blank (answer : Answer) : Type 0 where
  pub refusal : answer.refusal ≡ None
  pub shadow : BlankShadow answer.shadow
