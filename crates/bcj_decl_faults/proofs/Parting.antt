-- The faults of a list of units are those of its files, types and members.
use Rattle.std.proofs.Common.{◌≡◌, ◌<◌, ◌≤◌, ◌+◌, ◌++◌, ℕ, zero, suc, List, [], ◌∷◌, take, length, slice_get, refl, sym, ap, subst, ◌∙◌, None, Some, inl, inr, arith}
use Rattle.std.proofs.lemmas.Bool.{cases_lt}
use Rattle.bcj_parser_trees.specs.Trees.{PlainMember, PlainType, PlainUnit}
use Rattle.bcj_decl_rules.specs.World.{World, world_of, source_types}
use Rattle.bcj_decl_rules.specs.Faults.{Refusal, Place, StandsIn, here, FaultAt, in_head, in_member, IsFirstFault, IsDeclared, rank, MemberFault, member_at}
use Rattle.bcj_decl_faults.specs.Spots.{Spot, NoLater, IsLeast}
use Rattle.bcj_decl_faults.specs.Parts.{Below, MemberSpot, TypeSpot, InFile, FileSpot, InUnits}

-- a list taken apart where an item stands
pub record Parted {X : Type 0} (xs : List X) (k : ℕ) (x : X) : Type 0 where
  pub behind : List X
  pub whole : xs ≡ take k xs ++ x ∷ behind
  pub count : length (take k xs) ≡ k
  pub inside : k < length xs

parted_next : {X : Type 0} (y : X) (xs : List X) (k : ℕ) (x : X) → Parted xs k x → Parted (y ∷ xs) (suc k) x
parted_next y xs k x p =
    let inside : k < length xs = p.inside in record { behind = p.behind; whole = ap (λ l. y ∷ l) p.whole; count = ap suc p.count; inside = omega arith }

pub parted : {X : Type 0} (xs : List X) (k : ℕ) (x : X) → slice_get xs k ≡ Some x → Parted xs k x
parted [] k x e = cc
parted (y ∷ xs) zero x e = let same : y ≡ x = cc in record { behind = xs; whole = ap (λ z. z ∷ xs) same; count = refl; inside = omega arith }
parted (y ∷ xs) (suc k) x e = parted_next y xs k x (parted xs k x e)

pub at_seam : {X : Type 0} (xs : List X) (x : X) (ys : List X) → slice_get (xs ++ x ∷ ys) (length xs) ≡ Some x
at_seam [] x ys = refl
at_seam (y ∷ xs) x ys = at_seam xs x ys

pub take_seam : {X : Type 0} (xs ys : List X) → take (length xs) (xs ++ ys) ≡ xs
take_seam [] [] = refl
take_seam [] (y ∷ ys) = refl
take_seam (x ∷ xs) ys = ap (λ l. x ∷ l) (take_seam xs ys)

seam_inside : {X : Type 0} (xs : List X) (x : X) (ys : List X) → length xs < length (xs ++ x ∷ ys)
seam_inside [] x ys = omega arith
seam_inside (y ∷ xs) x ys = let rest : length xs < length (xs ++ x ∷ ys) = seam_inside xs x ys in omega arith

-- ---- from the rules

of_type : (units : List PlainUnit) (file : ℕ) (before : List PlainType) (t : PlainType) (x : Spot) → StandsIn units file before t → TypeSpot (world_of units) before t x → InUnits (world_of units) units file x
of_type units file before t x (here earlier later front behind e) fault =
    let w : World = world_of units in
    let P : List PlainType → Type 0 = λ b. TypeSpot w b t x in
    let Q : List PlainUnit → Type 0 = λ us. FileSpot w (source_types us) (front ++ t ∷ behind) x in
    let in_file : InFile w (source_types earlier) (front ++ t ∷ behind) (length front) x =
    record { type = t; stands = at_seam front t behind; fault = subst P (ap (λ l. source_types earlier ++ l) (sym (take_seam front (t ∷ behind)))) fault } in
    let taken : take (length earlier) units ≡ earlier = ap (take (length earlier)) e ∙ take_seam earlier ((front ++ t ∷ behind) ∷ later) in
    let whole : FileSpot w (source_types earlier) (front ++ t ∷ behind) x = record { position = length front; inside = seam_inside front t behind; fault = in_file } in
    record { unit = front ++ t ∷ behind; stands = ap (λ us. slice_get us (length earlier)) e ∙ at_seam earlier (front ++ t ∷ behind) later; fault = subst Q (sym taken) whole }

member_spot : (w : World) (t : PlainType) (m : PlainMember) (r : Refusal) (earlier later : List PlainMember) → t.members ≡ earlier ++ m ∷ later → MemberFault w t earlier m r
    → Below (MemberSpot w t) (length t.members) (record { at = member_at m; refusal = r })
member_spot w t m r earlier later e fault =
    let P : List PlainMember → Type 0 = λ b. MemberFault w t b m r in
    let less : length earlier < length (earlier ++ m ∷ later) = seam_inside earlier m later in
    let taken : take (length earlier) t.members ≡ earlier = ap (take (length earlier)) e ∙ take_seam earlier (m ∷ later) in
    record {
      position = length earlier;
      inside = omega (arith, less, ap length e);
      fault = record { member = m; stands = ap (λ l. slice_get l (length earlier)) e ∙ at_seam earlier m later; place = refl; fault = subst P (sym taken) fault };
    }

pub spot_of_fault : (units : List PlainUnit) (p : Place) (r : Refusal) → FaultAt units p r → InUnits (world_of units) units p.file (record { at = p.at; refusal = r })
spot_of_fault units p r (in_head {file = file} {before = before} {t = t} stands fault) =
    of_type units file before t (record { at = t.at; refusal = r }) stands (inl (record { place = refl; fault = fault }))
spot_of_fault units p r (in_member {file = file} {before = before} {t = t} {m = m} earlier later stands e fault) =
    of_type units file before t (record { at = member_at m; refusal = r }) stands (inr (member_spot (world_of units) t m r earlier later e fault))

-- ---- back to the rules

stands_at : (units : List PlainUnit) (k : ℕ) (unit : PlainUnit) (j : ℕ) (t : PlainType) → slice_get units k ≡ Some unit → slice_get unit j ≡ Some t → StandsIn units k (source_types (take k units) ++ take j unit) t
stands_at units k unit j t e f =
    let outer : Parted units k unit = parted units k unit e in
    let inner : Parted unit j t = parted unit j t f in
    let P : ℕ → Type 0 = λ n. StandsIn units n (source_types (take k units) ++ take j unit) t in
    subst P outer.count (here (take k units) outer.behind (take j unit) inner.behind (outer.whole ∙ ap (λ u. take k units ++ u ∷ outer.behind) inner.whole))

fault_of_type : (units : List PlainUnit) (k : ℕ) (before : List PlainType) (t : PlainType) (x : Spot) → StandsIn units k before t → TypeSpot (world_of units) before t x
    → FaultAt units (record { file = k; at = x.at }) x.refusal
fault_of_type units k before t x stands (inl h) =
    let P : ℕ → Type 0 = λ n. FaultAt units (record { file = k; at = n }) x.refusal in subst P (sym h.place) (in_head stands h.fault)
fault_of_type units k before t x stands (inr b) =
    let P : ℕ → Type 0 = λ n. FaultAt units (record { file = k; at = n }) x.refusal in
    let p : Parted t.members b.position b.fault.member = parted t.members b.position b.fault.member b.fault.stands in
    subst P (sym b.fault.place) (in_member (take b.position t.members) p.behind stands p.whole b.fault.fault)

pub fault_of_spot : (units : List PlainUnit) (k : ℕ) (x : Spot) → InUnits (world_of units) units k x → FaultAt units (record { file = k; at = x.at }) x.refusal
fault_of_spot units k x i =
    let f : InFile (world_of units) (source_types (take k units)) i.unit i.fault.position x = i.fault.fault in
    fault_of_type units k (source_types (take k units) ++ take i.fault.position i.unit) f.type x (stands_at units k i.unit i.fault.position f.type i.stands f.stands) f.fault

-- ---- the first fault

-- no file before this one has a fault
abbrev pub NoneBefore : World → List PlainUnit → ℕ → Type 0
NoneBefore w units n = (k : ℕ) (x : Spot) → k < n → InUnits w units k x → ⊥

not_earlier : (a b : ℕ) (y : Spot) (s : Refusal) → NoLater y (record { at = b; refusal = s }) → b < y.at → ⊥
not_earlier a b y s (inl less) h = omega arith
not_earlier a b y s (inr same) h = omega (arith, same.0)

not_lower : (y : Spot) (s : Refusal) → NoLater y (record { at = y.at; refusal = s }) → rank y.refusal ≤ rank s
not_lower y s (inl less) = absurd (omega arith)
not_lower y s (inr same) = same.1

in_this_file : (units : List PlainUnit) (n : ℕ) (unit : PlainUnit) → slice_get units n ≡ Some unit → (x : Spot) → InUnits (world_of units) units n x → FileSpot (world_of units) (source_types (take n units)) unit x
in_this_file units n unit e x i =
    let P : PlainUnit → Type 0 = λ u. FileSpot (world_of units) (source_types (take n units)) u x in
    let both : Some i.unit ≡ Some unit = sym i.stands ∙ e in
    let same : i.unit ≡ unit = cc in
    subst P same i.fault

pub is_first : (units : List PlainUnit) (n : ℕ) (unit : PlainUnit) (y : Spot) → slice_get units n ≡ Some unit → NoneBefore (world_of units) units n
    → IsLeast (FileSpot (world_of units) (source_types (take n units)) unit) (Some y) → IsFirstFault units (record { file = n; at = y.at }) y.refusal
is_first units n unit y e none least =
    record {
      is_fault = fault_of_spot units n y (record { unit = unit; stands = e; fault = least.0 });
      earliest = λ q s fault before.
          let i : InUnits (world_of units) units q.file (record { at = q.at; refusal = s }) = spot_of_fault units q s fault in
          elim before [
            | inl less ↦ none q.file (record { at = q.at; refusal = s }) less i
            | inr same ↦
                let P : ℕ → Type 0 = λ k. InUnits (world_of units) units k (record { at = q.at; refusal = s }) in
                not_earlier n q.at y s (least.1 (record { at = q.at; refusal = s }) (in_this_file units n unit e (record { at = q.at; refusal = s }) (subst P same.0 i))) same.1
          ];
      lowest = λ s fault. not_lower y s (least.1 (record { at = y.at; refusal = s }) (in_this_file units n unit e (record { at = y.at; refusal = s }) (spot_of_fault units (record { file = n; at = y.at }) s fault)));
    }

past_end : {X : Type 0} (xs : List X) (k : ℕ) (x : X) → slice_get xs k ≡ Some x → k < length xs
past_end xs k x e = let p : Parted xs k x = parted xs k x e in p.inside

pub is_declared : (units : List PlainUnit) (n : ℕ) → length units ≤ n → NoneBefore (world_of units) units n → IsDeclared units
is_declared units n whole none p r fault =
    let i : InUnits (world_of units) units p.file (record { at = p.at; refusal = r }) = spot_of_fault units p r fault in
    let inside : p.file < length units = past_end units p.file i.unit i.stands in
    none p.file (record { at = p.at; refusal = r }) (omega arith) i

-- one file further on
pub none_in_more : (w : World) (units : List PlainUnit) (n : ℕ) (unit : PlainUnit) → slice_get units n ≡ Some unit → NoneBefore w units n
    → IsLeast (FileSpot w (source_types (take n units)) unit) None → NoneBefore w units (n + 1)
none_in_more w units n unit e none least k x less i =
    let P : ℕ → Type 0 = λ j. InUnits w units j x in
    elim (cases_lt k n) [
      | inl before ↦ none k x before i
      | inr more ↦
          let same : k ≡ n = omega arith in
          let there : InUnits w units n x = subst P same i in
          let Q : PlainUnit → Type 0 = λ u. FileSpot w (source_types (take n units)) u x in
          let both : Some there.unit ≡ Some unit = sym there.stands ∙ e in
          let one : there.unit ≡ unit = cc in
          least x (subst Q one there.fault)
    ]
