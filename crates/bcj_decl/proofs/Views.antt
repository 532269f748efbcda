-- Fields and types that are written one behind the other.
use Rattle.std.proofs.Common.{◌≡◌, ◌+◌, ◌++◌, ◌<◌, List, [], ◌∷◌, map, take, drop, length, length-append, ℕ, ℤ, suc, refl, sym, ◌∙◌, ap, append_assoc, append-nil, arith, add-one, Option}
use Rattle.std.proofs.Math.ListN.{get_or, set}
use Rattle.std.proofs.Math.Seq.{take-suc, take-suc-set}
use Rattle.std.proofs.lemmas.List.{map-set, set-get_or, map-append, drop-set-lt, drop_more, take-append-drop, get_or_default}
use Rattle.std.proofs.lemmas.List.Concat.{flat_map-append}
use Rattle.std.specs.Option.{option_map}
use Rattle.bcj_decl_rules.specs.declared.value.Value.{Value}
use Rattle.bcj_decl_table.specs.declared.info.FieldInfo.{FieldInfo}
use Rattle.bcj_decl_table.specs.declared.info.TypeInfo.{TypeInfo}
use Rattle.bcj_decl_table.specs.Views.{declared_of, field_of_info}
use Rattle.bcj_decl.specs.Filled.{constants_in, infos_in, numbers_of}
use Rattle.bcj_decl.specs.Worlds.{number_of}

-- an element is written with the same view
pub same_view : {A B : Type 0} (f : A → B) (xs : List A) (i : ℕ) (d v : A) → f v ≡ f (get_or xs i d) → map f (set xs i v) ≡ map f xs
same_view f xs i d v e = map-set f xs i v ∙ (ap (set (map f xs) i) e ∙ (sym (map-set f xs i (get_or xs i d)) ∙ ap (map f) (set-get_or xs i d)))

pub ruleset filling_rules = (map-append)

abbrev constant_of : FieldInfo → Option ℤ
constant_of f = f.constant

-- one field more
pub field_more : (fs first : List FieldInfo) (values : List (Option Value)) (at : ℕ) (d new : FieldInfo) (v : Option Value) → at < length fs → at < length values → field_of_info new ≡ field_of_info (get_or fs at d)
    → new.constant ≡ option_map number_of (get_or values at v) → map field_of_info fs ≡ map field_of_info first → map (λ f. f.constant) (take at fs) ≡ numbers_of (take at values)
    → (map field_of_info (set fs at new) ≡ map field_of_info first) × (map (λ f. f.constant) (take (at + 1) (set fs at new)) ≡ numbers_of (take (at + 1) values))
field_more fs first values at d new v inside there same put view done =
    let one : at + 1 ≡ suc at = add-one at in
    let left : map constant_of (take (suc at) (set fs at new)) ≡ map constant_of (take at fs) ++ new.constant ∷ [] =
    ap (map constant_of) (take-suc-set fs at new inside) ∙ map-append constant_of (take at fs) (new ∷ []) in
    let right : numbers_of (take (suc at) values) ≡ numbers_of (take at values) ++ option_map number_of (get_or values at v) ∷ [] =
    ap numbers_of (take-suc values at v there) ∙ map-append (option_map number_of) (take at values) (get_or values at v ∷ []) in (
      same_view field_of_info fs at d new same ∙ view,
      ap (λ n. map constant_of (take n (set fs at new))) one
          ∙ (left ∙ (ap (λ l. l ++ new.constant ∷ []) done ∙ (ap (λ c. numbers_of (take at values) ++ c ∷ []) put ∙ (sym right ∙ ap (λ n. numbers_of (take n values)) (sym one))))),
    )

-- one type more
pub type_more : (ts first : List TypeInfo) (values rest front others : List (Option Value)) (at n : ℕ) (d e new : TypeInfo) → at < length ts → declared_of new ≡ declared_of (get_or ts at d)
    → map (λ f. f.constant) new.fields ≡ numbers_of front → front ≡ take n rest → others ≡ drop n rest → length (get_or ts at e).fields ≡ length front → map declared_of ts ≡ map declared_of first
    → constants_in (take at ts) ++ numbers_of rest ≡ numbers_of values → length (infos_in (drop at ts)) ≡ length rest
    → (map declared_of (set ts at new) ≡ map declared_of first) × (constants_in (take (at + 1) (set ts at new)) ++ numbers_of others ≡ numbers_of values)
    × (length (infos_in (drop (at + 1) (set ts at new))) ≡ length others)
type_more ts first values rest front others at n d e new inside same put front_is others_is counted view done room =
    let split : rest ≡ front ++ others =
    sym (take-append-drop n rest) ∙ (ap (λ l. l ++ drop n rest) (sym front_is) ∙ ap (λ l. front ++ l) (sym others_is)) in
    let long : length (get_or ts at d).fields ≡ length front = ap (λ (t : TypeInfo). length t.fields) (get_or_default ts at d e inside) ∙ counted in
    let one : at + 1 ≡ suc at = add-one at in
    let infos : infos_in (take (suc at) (set ts at new)) ≡ infos_in (take at ts) ++ new.fields =
    ap infos_in (take-suc-set ts at new inside) ∙ (flat_map-append (λ (t : TypeInfo). t.fields) (take at ts) (new ∷ []) ∙ ap (λ l. infos_in (take at ts) ++ l) (append-nil new.fields)) in
    let left : constants_in (take (suc at) (set ts at new)) ≡ constants_in (take at ts) ++ numbers_of front =
    ap (map constant_of) infos ∙ (map-append constant_of (infos_in (take at ts)) new.fields ∙ ap (λ l. constants_in (take at ts) ++ l) put) in
    let whole : numbers_of rest ≡ numbers_of front ++ numbers_of others = ap numbers_of split ∙ map-append (option_map number_of) front others in
    let later : infos_in (drop (at + 1) (set ts at new)) ≡ infos_in (drop (at + 1) ts) = ap infos_in (drop-set-lt (at + 1) ts at new (omega arith)) in
    let here_it : infos_in (drop at ts) ≡ (get_or ts at d).fields ++ infos_in (drop (at + 1) ts) = ap infos_in (drop_more ts at d inside) in
    let sum : length ((get_or ts at d).fields ++ infos_in (drop (at + 1) ts)) ≡ length (get_or ts at d).fields + length (infos_in (drop (at + 1) ts)) =
    length-append (get_or ts at d).fields (infos_in (drop (at + 1) ts)) in
    let parts : length (front ++ others) ≡ length front + length others = length-append front others in
    let counts : length (infos_in (drop at ts)) ≡ length ((get_or ts at d).fields ++ infos_in (drop (at + 1) ts)) = ap length here_it in
    let rests : length rest ≡ length (front ++ others) = ap length split in
    let laters : length (infos_in (drop (at + 1) (set ts at new))) ≡ length (infos_in (drop (at + 1) ts)) = ap length later in (
      same_view declared_of ts at d new same ∙ view,
      ap (λ n. constants_in (take n (set ts at new)) ++ numbers_of others) one
          ∙ (ap (λ l. l ++ numbers_of others) left ∙ (append_assoc (constants_in (take at ts)) (numbers_of front) (numbers_of others) ∙ (ap (λ l. constants_in (take at ts) ++ l) (sym whole) ∙ done))),
      omega arith,
    )
