use Rattle.std.proofs.Common.{◌≡◌}
use Rattle.calls.specs.Stores.{built}
use Rattle.shadows.proofs.file.fill.Given as goal

-- the values so far
abbrev pub invariant-loop : goal.invariant-loop
invariant-loop g l = l.store.items ≡ built l.counter (λ _. l.value)
