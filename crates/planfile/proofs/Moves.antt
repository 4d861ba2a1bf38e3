-- The cursor from section to section.
use Rattle.std.specs.Prelude.{◌≡◌, ℕ, suc, List}
use Rattle.std.proofs.Common.{ap₂, ◌∙◌}
use Rattle.planfile.specs.Sections.{end_of, start}
use Rattle.planfile.specs.declared.cursor.Cursor.{Cursor}

-- the cursor stands where section k begins
pub record At (bytes : List ℕ) (k : ℕ) (cursor : Cursor) : Type 0 where
  pub bytes_are : cursor.bytes.now ≡ bytes
  pub offset_is : cursor.offset ≡ start bytes k

-- past a section it stands where the next begins
pub moves : {bytes : List ℕ} {k : ℕ} {old new : Cursor} → At bytes k old → new.bytes.now ≡ old.bytes.now → new.offset ≡ end_of old.bytes.now old.offset → At bytes (suc k) new
unfolding start
moves at same moved = record { bytes_are = same ∙ at.bytes_are; offset_is = moved ∙ ap₂ end_of at.bytes_are at.offset_is }

-- what is said of where the cursor stands is said of where the section begins
pub said : {A : Type 0} {bytes : List ℕ} {k : ℕ} {cursor : Cursor} (f : List ℕ → ℕ → A) → At bytes k cursor → f cursor.bytes.now cursor.offset ≡ f bytes (start bytes k)
said f at = ap₂ f at.bytes_are at.offset_is
