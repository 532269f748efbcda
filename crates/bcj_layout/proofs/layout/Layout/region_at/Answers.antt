use Rattle.std.proofs.Common.{◌≡◌, ◌∙◌, ◌<◌, ◌≤◌, ap, sym, subst, ℕ, List, Some, length, slice_get, get_or, arith}
use Rattle.std.proofs.lemmas.Option.{get_or_from_slice_get}
use Rattle.std.proofs.lemmas.List.{length-map}
use Rattle.bcj_layout_rules.specs.Places.{region_at}
use Rattle.bcj_layout.specs.LaidOut.{LaidOut}
use Rattle.bcj_layout.proofs.layout.Layout.region_at.Goals as goal

-- what is kept at each place is the address of a region
abbrev HasRegions : List ℕ → LaidOut → Type 0
HasRegions regions l = (k : ℕ) → k ≤ length l.classes → slice_get regions k ≡ Some (region_at l.classes l.main k)

read : (l : LaidOut) (regions now : List ℕ) (k : ℕ) → now ≡ regions → HasRegions regions l → k < length l.classes → get_or now k 0 ≡ region_at l.classes l.main k
read l regions now k same each within = ap (λ xs. get_or xs k 0) same ∙ get_or_from_slice_get regions k (region_at l.classes l.main k) 0 (each k (omega arith))

pub returns-in-None : goal.returns-in-None
returns-in-None c = λ d begins.
    let l = c.args.self.now in
    let regions = c.self.inside.places.regions in
    let kept : HasRegions regions l = subst (HasRegions regions) c.self.view_is c.self.invariant.places.regions in
    let count : c.len-count.result ≡ length l.classes = c.len-count.ensures.count ∙ (ap length c.hier.ensures ∙ length-map l.classes (λ x. x.head)) in
    let within : d.0 < length l.classes = begins.within in
    let inside : d.0 < c.len-count.result = omega (arith, count, within) in
    c.in-None.ensures d.0 inside (read l regions c.as_slice.result.now d.0 c.as_slice.ensures kept within ∙ begins.here)

pub returns-in-Some : goal.returns-in-Some
returns-in-Some c =
    let l = c.args.self.now in
    let regions = c.self.inside.places.regions in
    let kept : HasRegions regions l = subst (HasRegions regions) c.self.view_is c.self.invariant.places.regions in
    let count : c.len-count.result ≡ length l.classes = c.len-count.ensures.count ∙ (ap length c.hier.ensures ∙ length-map l.classes (λ x. x.head)) in
    let within : c.in-Some.k < length l.classes = omega (arith, count, c.in-Some.ensures.0) in
    record { within = within; here = sym (read l regions c.as_slice.result.now c.in-Some.k c.as_slice.ensures kept within) ∙ c.in-Some.ensures.1 }
