-- Walks over nodes: over two lists in turn, and settled once their parts are known.
use Rattle.std.proofs.Common.{◌≡◌, refl, ap, sym, ◌∙◌, ℕ, ◌+◌, min, Bool, true, false, List, [], ◌∷◌, ◌++◌, Option, Some, unwrap_or}
use Rattle.bcj_symbolic_check.specs.declared.walk.Walk.{Walk}
use Rattle.bcj_symbolic_check.specs.Limits.{max_place}
use Rattle.bcj_symbolic_check.specs.function.Walks.{stepped, noted, settled}

pub noted-nil : (w : Walk) → noted w [] ≡ w
unfolding noted
noted-nil w = refl

pub noted-append : (w : Walk) (a b : List Bool) → noted (noted w a) b ≡ noted w (a ++ b)
unfolding noted
noted-append w [] b = refl
noted-append w (h ∷ a) b = noted-append (stepped w h) a b

noted-place : (v u : Walk) (m : List Bool) → v.place ≡ u.place → (noted v m).place ≡ (noted u m).place
unfolding noted stepped
noted-place v u [] e = e
noted-place v u (h ∷ m) e = noted-place (stepped v h) (stepped u h) m (λ i. min (e i + 1) max_place)

stepped-fault : (v : Walk) (h : Bool) (x : ℕ) → v.fault ≡ Some x → (stepped v h).fault ≡ Some x
unfolding stepped
stepped-fault v true x e = e
stepped-fault v false x e = ap (λ (f : Option ℕ). Some (unwrap_or f v.place)) e

pub noted-fault : (v : Walk) (m : List Bool) (x : ℕ) → v.fault ≡ Some x → (noted v m).fault ≡ Some x
unfolding noted
noted-fault v [] x e = e
noted-fault v (h ∷ m) x e = noted-fault (stepped v h) m x (stepped-fault v h x e)

pub settle-one : (w : Walk) (h : Bool) (a : List Bool) → settled w h (noted (stepped w true) a) ≡ noted w (h ∷ a)
unfolding noted settled stepped
settle-one w true a = refl
settle-one w false a =
    λ i. record {
      place = noted-place (stepped w true) (stepped w false) a refl i;
      fault = sym (noted-fault (stepped w false) a (unwrap_or w.fault w.place) refl) i;
    }

pub settle-none : (w : Walk) (h : Bool) → settled w h (stepped w true) ≡ noted w (h ∷ [])
settle-none w h = ap (settled w h) (sym (noted-nil (stepped w true))) ∙ settle-one w h []

pub settle-two : (w : Walk) (h : Bool) (a b : List Bool) → settled w h (noted (noted (stepped w true) a) b) ≡ noted w (h ∷ (a ++ b))
settle-two w h a b = ap (settled w h) (noted-append (stepped w true) a b) ∙ settle-one w h (a ++ b)

pub settle-three : (w : Walk) (h : Bool) (a b c : List Bool) → settled w h (noted (noted (noted (stepped w true) a) b) c) ≡ noted w (h ∷ (a ++ (b ++ c)))
settle-three w h a b c =
    ap (settled w h) (noted-append (noted (stepped w true) a) b c) ∙ settle-two w h a (b ++ c)
