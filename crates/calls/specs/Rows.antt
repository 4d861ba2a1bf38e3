-- Rows of calls, and what they make of the three stores.
use Rattle.std.specs.Prelude.{◌≡◌, ℕ, Bool, not, if◌then◌else◌, List, [], ◌∷◌, ◌++◌, length, count_by}
use Rattle.values.specs.Laws.{Ops}
use Rattle.calls.specs.Stores.{Stores, three}
use Rattle.calls.specs.Systems.{System, voxels, places, is_view}
use Rattle.calls.specs.Boxes.{box_fits}
use Rattle.calls.specs.Calls.{forward, back, transfer, scale, trim}
use Rattle.calls.specs.declared.call.Call.{Call}
use Rattle.calls.specs.declared.call.Call.TheVariants.{Forward, Back, Take, Give, Scale, Trim}

-- Stores of the lengths that the numbers of a system ask for.
pub record Fits {V : Type 0} (s : System) (stores : Stores V) : Type 0 where
  pub volume : length stores.volume ≡ voxels s
  pub measured : length stores.measured ≡ places s
  pub working : length stores.working ≡ places s

-- Whether a call is accepted: there is a view of its number, or its box fits.
abbrev pub accepted : {V : Type 0} → System → Call V → Bool
accepted s (Forward view factor) = is_view s view
accepted s (Back view factor) = is_view s view
accepted s (Take view factor) = is_view s view
accepted s (Give view factor) = is_view s view
accepted s (Scale view factor) = is_view s view
accepted s (Trim within) = box_fits s within

-- What an accepted call makes of the three stores, of which it changes one.
abbrev pub made_by : {V : Type 0} → Ops V → System → Call V → Stores V → Stores V
made_by o s (Forward view factor) r = three r.volume r.measured (forward o s view factor r.volume r.working)
made_by o s (Back view factor) r = three (back o s view factor r.working r.volume) r.measured r.working
made_by o s (Take view factor) r = three r.volume r.measured (transfer o s view factor r.measured r.working)
made_by o s (Give view factor) r = three r.volume (transfer o s view factor r.working r.measured) r.working
made_by o s (Scale view factor) r = three r.volume r.measured (scale o s view factor r.working)
made_by o s (Trim within) r = three (trim o s within r.volume) r.measured r.working

-- What the three stores are after a call; one that is refused alters nothing.
abbrev pub after_call : {V : Type 0} → Ops V → System → Call V → Stores V → Stores V
after_call o s call stores = if accepted s call then made_by o s call stores else stores

-- The outcome of a row of calls from a start: what the three stores are after the last call.
unfoldable pub outcome : {V : Type 0} → Ops V → System → List (Call V) → Stores V → Stores V
outcome o s [] start = start
outcome o s (call ∷ row) start = outcome o s row (after_call o s call start)

-- How many calls of a row are refused.
abbrev pub refusals : {V : Type 0} → System → List (Call V) → ℕ
refusals s row = count_by (λ call. not (accepted s call)) row

-- A call mirrored: forward becomes back, take becomes give, each the other way round too, and scale and trim stay.
abbrev pub mirrored_call : {V : Type 0} → Call V → Call V
mirrored_call (Forward view factor) = Back view factor
mirrored_call (Back view factor) = Forward view factor
mirrored_call (Take view factor) = Give view factor
mirrored_call (Give view factor) = Take view factor
mirrored_call (Scale view factor) = Scale view factor
mirrored_call (Trim within) = Trim within

-- The mirrored row: the calls from last to first, each mirrored.
abbrev pub mirrored : {V : Type 0} → List (Call V) → List (Call V)
mirrored [] = []
mirrored (call ∷ row) = mirrored row ++ (mirrored_call call ∷ [])
