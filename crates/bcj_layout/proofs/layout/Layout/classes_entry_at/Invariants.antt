use Rattle.std.proofs.Common.{◌≡◌, ◌<◌, ℕ, Some}
use Rattle.bcj_layout.specs.declared.entry_id.EntryId.{EntryId}
use Rattle.bcj_layout.specs.EntryPlaces.{StandsAt}
use Rattle.bcj_layout.proofs.layout.Layout.classes_entry_at.Given as goal

-- no entry of the classes so far stands there
abbrev pub invariant-loop-k : goal.invariant-loop-k
invariant-loop-k l = (j : ℕ) → j < l.k → (e : EntryId) → e.class ≡ Some (record { 0 = j }) → StandsAt l.self.classes l.self.main l.at e → ⊥
