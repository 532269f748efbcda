-- At most one class fits a type.
use Rattle.std.proofs.Common.{◌≡◌, ℕ, Bool, true, false, List, [], ◌∷◌, ◌++◌, Option, Some, refl, sym, ◌∙◌, ap, subst, not}
use Rattle.std.specs.List.{AllZip}
use Rattle.bcj_parser_trees.specs.Trees as source
use Rattle.bcj_symbolic_trees.specs.Types.{PlainTy}
use Rattle.bcj_symbolic_trees.specs.Units.{PlainField, PlainClass, PlainUnit}
use Rattle.bcj_typing_rules.specs.Units.{Elaborates}
use Rattle.bcj_decl_rules.specs.declared.value.Value.{Value}
use Rattle.bcj_decl_rules.specs.World.{Named, Field, Method, world_of, param_types, is_private}
use Rattle.bcj_decl_rules.specs.Methods.{Choice, MostSpecific}
use Rattle.bcj_decl_rules.specs.Faults.{is_static}
use Rattle.bcj_parser_trees.specs.declared.names.Param.{Param}
use Rattle.bcj_symbolic_trees.specs.Names.{constructor_name}
use Rattle.bcj_typing_rules.specs.Context.{Context, FieldWorth}
use Rattle.bcj_typing_rules.specs.Expressions.{Typing, types_in}
use Rattle.bcj_typing_rules.specs.Casting.{uses}
use Rattle.bcj_typing_rules.specs.Statements.{block_of, RunAll}
use Rattle.bcj_symbolic_trees.specs.Trees as tree
use Rattle.bcj_typing_rules.specs.Members as rule
use Rattle.bcj_typing_rules.specs.Members.{Added, Part, Made, FieldBecomes, Initialises, HasInitialiser, StaticPart, StaticParts, InstancePart, InstanceParts, Starts, HasStart, ConstructorBecomes, ConstructorsBecome, MethodBecomes, BecomesClass, field_record, start_value}
use Rattle.bcj_typing_rules.specs.function.Expressions.{Outcome, result, Answers, AreRight, AreOnly}
use Rattle.bcj_typing_rules.proofs.Completeness.{expr_found, args_found, value_only}
use Rattle.bcj_typing_rules.proofs.Effects.{all_found}

one_of : {A : Type 0} (s t : A) (o : Outcome A) → o ≡ result s → o ≡ result t → s ≡ t
one_of s t o h k = let both : result s ≡ result t = sym h ∙ k in cc

one_found : (o : Option Method) (f g : Method) → o ≡ Some f → o ≡ Some g → f ≡ g
one_found o f g h k = let both : Some f ≡ Some g = sym h ∙ k in cc

-- lists whose items are one each
one_list : {A B : Type 0} (R : A → B → Type 0) → ((x : A) (y z : B) → R x y → R x z → y ≡ z) → (xs : List A) (ys zs : List B) → AllZip R xs ys → AllZip R xs zs → ys ≡ zs
one_list R one [] [] [] h k = refl
one_list R one [] (y ∷ ys) zs h k = absurd h
one_list R one [] [] (z ∷ zs) h k = absurd k
one_list R one (x ∷ xs) [] zs h k = absurd h
one_list R one (x ∷ xs) (y ∷ ys) [] h k = absurd k
one_list R one (x ∷ xs) (y ∷ ys) (z ∷ zs) h k = (λ i. one x y z h.0 k.0 i ∷ one_list R one xs ys zs h.1 k.1 i)

no_part : (f : Field) (o : Option Field) (e : source.PlainExpr) (b : Bool) → o ≡ Some f → f.is_static ≡ b → rule.has_initialiser_of b o (source.present e) ≡ false → ⊥
no_part f o e true h s k = let yes : rule.has_initialiser_of true (Some f) (source.present e) ≡ false = ap (λ p. rule.has_initialiser_of true p (source.present e)) (sym h) ∙ k in let clash : true ≡ false = sym s ∙ yes in cc
no_part f o e false h s k = let yes : rule.has_initialiser_of false (Some f) (source.present e) ≡ false = ap (λ p. rule.has_initialiser_of false p (source.present e)) (sym h) ∙ k in let clash : true ≡ false = sym (ap not s) ∙ yes in cc

module _ (units : List source.PlainUnit) (a : Answers) (right : AreRight units a) (only : AreOnly units a) where
  one_field : (f : Field) (x y : PlainField) → FieldBecomes units f x → FieldBecomes units f y → x ≡ y
  one_field f x y (rule.field_becomes {v = v} h) (rule.field_becomes {v = u} k) =
      let c : Context = rule.initialiser_context units f.class f.is_static in
      ap (λ o. field_record f (start_value f.is_static o)) (sym (value_only c a right only f v h) ∙ value_only c a right only f u k)

  one_initialiser : (f : Field) (e : source.PlainExpr) (x y : Added) → HasInitialiser units f e x → HasInitialiser units f e y → x ≡ y
  one_initialiser f e x y (rule.has_initialiser (rule.initialises {t = t} h d) p) (rule.has_initialiser (rule.initialises {t = u} k b) q) =
      let c : Context = rule.initialiser_context units f.class f.is_static in
      ap (λ v. record { trees = tree.evaluate (rule.set_own f v.tree) ∷ []; steps = v.steps ++ uses v.type f.ty }) (one_of t u _ (expr_found c a right only e t h) (expr_found c a right only e u k))

  -- of a field that is found in two ways
  one_initialiser_of : (o : Option Field) (f g : Field) (e : source.PlainExpr) (x y : Added) → o ≡ Some f → o ≡ Some g → HasInitialiser units f e x → HasInitialiser units g e y → x ≡ y
  one_initialiser_of o f g e x y h k p q =
      let same : g ≡ f = cc in
      one_initialiser f e x y p (subst (λ v. HasInitialiser units v e y) same q)

  one_value_of : (c : Context) → c.units ≡ units → (o : Option Field) (f g : Field) (u v : Option Value) → o ≡ Some f → o ≡ Some g → FieldWorth (record c { units = units }) f u → FieldWorth (record c { units = units }) g v → u ≡ v
  one_value_of c s o f g u v h k p q =
      let same : g ≡ f = cc in
      sym (value_only (record c { units = units }) a right only f u p) ∙ value_only (record c { units = units }) a right only f v (subst (λ w. FieldWorth (record c { units = units }) w v) same q)

  one_static : (t : source.PlainType) (types : List PlainTy) (m : source.PlainMember) (x y : Part) → StaticPart units t types m x → StaticPart units t types m y → x ≡ y
  one_static t types m x y (rule.static_block {body = body} {b = b} h) (rule.static_block {b = d} k) =
      let c : Context = rule.initialiser_context units t.name true in
      ap (λ r. record { types = r.types; trees = block_of r.trees ∷ []; steps = r.steps }) (one_of b d _ (all_found c a right only types body b h) (all_found c a right only types body d k))
  one_static t types m x y (rule.static_block h) (rule.no_static_part k) = cc
  one_static t types m x y (rule.no_static_part h) (rule.static_block k) = cc
  one_static t types m x y (rule.no_static_part h) (rule.no_static_part k) = refl
  one_static t types m x y (rule.static_field {e = e} {f = f} {v = u} {a = b} h s i w) (rule.static_field {f = g} {v = v} {a = d} k r j z) =
      let c : Context = rule.initialiser_context units t.name true in
      let same : b ≡ d = one_initialiser_of _ f g e b d h k i j in
      let worth : u ≡ v = one_value_of c refl _ f g u v h k w z in
      (λ n. record { types = types; trees = (rule.unless_constant (worth n) (same n)).trees; steps = (rule.unless_constant (worth n) (same n)).steps })
  one_static t types m x y (rule.static_field {at = at} {mods = mods} {ty = ty} {name = name} {e = e} {f = f} h s i w) (rule.no_static_part k) = absurd (no_part f _ e true h s k)
  one_static t types m x y (rule.no_static_part k) (rule.static_field {e = e} {f = f} h s i w) = absurd (no_part f _ e true h s k)

  one_statics : (t : source.PlainType) (types : List PlainTy) (ms : List source.PlainMember) (x y : Part) → StaticParts units t types ms x → StaticParts units t types ms y → x ≡ y
  one_statics t types ms x y rule.no_static_parts rule.no_static_parts = refl
  one_statics t types (m ∷ ms) x y (rule.more_static_parts {p = p} {r = r} h hs) (rule.more_static_parts {p = q} {r = w} k ks) =
      let same : p ≡ q = one_static t types m p q h k in
      let later : r ≡ w = one_statics t p.types ms r w hs (subst (λ v. StaticParts units t v.types ms w) (sym same) ks) in
      (λ n. record { types = (later n).types; trees = (same n).trees ++ (later n).trees; steps = (same n).steps ++ (later n).steps })

  one_instance : (t : source.PlainType) (m : source.PlainMember) (x y : Added) → InstancePart units t m x → InstancePart units t m y → x ≡ y
  one_instance t m x y (rule.instance_field {e = e} {f = f} h s i) (rule.instance_field {f = g} k r j) = one_initialiser_of _ f g e x y h k i j
  one_instance t m x y (rule.instance_field {e = e} {f = f} h s i) (rule.no_instance_part k) = absurd (no_part f _ e false h s k)
  one_instance t m x y (rule.no_instance_part k) (rule.instance_field {e = e} {f = f} h s i) = absurd (no_part f _ e false h s k)
  one_instance t m x y (rule.no_instance_part h) (rule.no_instance_part k) = refl

  one_instances : (t : source.PlainType) (ms : List source.PlainMember) (x y : Added) → InstanceParts units t ms x → InstanceParts units t ms y → x ≡ y
  one_instances t ms x y rule.no_instance_parts rule.no_instance_parts = refl
  one_instances t (m ∷ ms) x y (rule.more_instance_parts {a = p} {r = r} h hs) (rule.more_instance_parts {a = q} {r = w} k ks) =
      let same : p ≡ q = one_instance t m p q h k in
      let later : r ≡ w = one_instances t ms r w hs ks in
      (λ n. record { trees = (same n).trees ++ (later n).trees; steps = (same n).steps ++ (later n).steps })

  one_choice : (from : Named) (c d : Named) (ts us : List Typing) (m n : Choice) → c ≡ d → ts ≡ us → MostSpecific (world_of units) from c constructor_name (types_in ts) m
      → MostSpecific (world_of units) from d constructor_name (types_in us) n → m ≡ n
  one_choice from c d ts us m n p q h k = sym (only.choose _ _ _ _ m h) ∙ ((λ i. a.choose from (p i) constructor_name (types_in (q i))) ∙ only.choose _ _ _ _ n k)

  one_name : (o : Option Named) (x y : Named) → o ≡ Some x → o ≡ Some y → x ≡ y
  one_name o x y h k = let both : Some x ≡ Some y = sym h ∙ k in cc

  one_start : (class : Named) (params : List Param) (first : source.PlainFirst) (x y : Added) (s r : Bool) → HasStart (rule.constructor_context units class params) first x s
      → HasStart (rule.constructor_context units class params) first y r → (x ≡ y) × (s ≡ r)
  one_start class params first x y s r (rule.has_start (rule.written {args = args} {class = c} {ts = ts} {m = m} xs h k) p) (rule.has_start (rule.written {class = d} {ts = us} {m = n} ys i l) q) =
      let o : Context = rule.constructor_context units class params in
      let classes : c ≡ d = one_name _ c d h i in
      let args_same : ts ≡ us = one_of ts us _ (args_found (rule.before_this o) a right only args ts xs) (args_found (rule.before_this o) a right only args us ys) in
      let chosen : m ≡ n = one_choice class c d ts us m n classes args_same k l in
      ((λ j. rule.call_added o (classes j) (args_same j) (chosen j)), refl)
  one_start class params first x y s r (rule.has_start (rule.unwritten {class = c} {m = m} h k) p) (rule.has_start (rule.unwritten {class = d} {m = n} i l) q) =
      let o : Context = rule.constructor_context units class params in
      let classes : c ≡ d = one_name _ c d h i in
      let chosen : m ≡ n = one_choice class c d [] [] m n classes refl k l in
      ((λ j. rule.call_added o (classes j) [] (chosen j)), refl)

  one_constructor : (t : source.PlainType) (i : Added) (m : source.PlainMember) (x y : Made) → ConstructorBecomes units t i m x → ConstructorBecomes units t i m y → x ≡ y
  one_constructor t i m x y (rule.constructor_becomes {mods = mods} {params = params} {first = first} {body = body} {a = p} {to_super = s} {b = b} h hs) (rule.constructor_becomes {a = q} {to_super = r} {b = d} k ks) =
      let starts : (p ≡ q) × (s ≡ r) = one_start t.name params first p q s r h k in
      let c : Context = rule.constructor_context units t.name params in
      let types : List PlainTy = rule.first_types t.name false (param_types params) in
      let bodies : b ≡ d = one_of b d _ (all_found c a right only types body b hs) (all_found c a right only types body d ks) in
      (λ n. rule.constructor_made t.name (param_types params) (is_private mods) (bodies n).types (starts.0 n) (rule.with_initialisers (starts.1 n) i) (bodies n))

  one_constructors : (t : source.PlainType) (i : Added) (x y : List Made) → ConstructorsBecome units t i x → ConstructorsBecome units t i y → x ≡ y
  one_constructors t i x y (rule.of_interface h) (rule.of_interface k) = refl
  one_constructors t i x y (rule.of_interface h) (rule.by_default k n s) = cc
  one_constructors t i x y (rule.of_interface h) (rule.each_written k n s) = cc
  one_constructors t i x y (rule.by_default k n s) (rule.of_interface h) = cc
  one_constructors t i x y (rule.each_written k n s) (rule.of_interface h) = cc
  one_constructors t i x y (rule.by_default {a = p} h n s) (rule.by_default {a = q} k m r) =
      let starts : (p ≡ q) × (true ≡ true) = one_start t.name [] source.no_first p q true true s r in
      (λ j. rule.constructor_made t.name [] false (rule.first_types t.name false []) (starts.0 j) i (rule.no_effects (rule.first_types t.name false [])) ∷ [])
  one_constructors t i x y (rule.by_default h n s) (rule.each_written k m r) = cc
  one_constructors t i x y (rule.each_written k m r) (rule.by_default h n s) = cc
  one_constructors t i x y (rule.each_written {m = m} {ms = ms} h n s) (rule.each_written {m = m2} {ms = ms2} k l r) =
      let same : (m2 ∷ ms2) ≡ (m ∷ ms) = sym l ∙ n in
      one_list (ConstructorBecomes units t i) (one_constructor t i) (m ∷ ms) x y s (subst (λ v. AllZip (ConstructorBecomes units t i) v y) same r)

  one_method : (t : source.PlainType) (m : source.PlainMember) (x y : Made) → MethodBecomes units t m x → MethodBecomes units t m y → x ≡ y
  one_method t m x y (rule.with_a_body {params = params} {body = body} {m = f} {b = b} h hs) (rule.with_a_body {m = g} {b = d} k ks) =
      let same : g ≡ f = one_found _ g f k h in
      let c : Context = rule.method_context units f params in
      let types : List PlainTy = rule.first_types t.name (is_static f) (param_types params) in
      let moved : RunAll c types body d = subst (λ v. RunAll (rule.method_context units v params) (rule.first_types t.name (is_static v) (param_types params)) body d) same ks in
      let bodies : b ≡ d = one_of b d _ (all_found c a right only types body b hs) (all_found c a right only types body d moved) in
      (λ n. record { method = rule.method_record (sym same n) (bodies n).types (tree.stmts_from (bodies n).trees); steps = (bodies n).steps })
  one_method t m x y (rule.without_body {params = params} {m = f} h) (rule.without_body {m = g} k) =
      let same : f ≡ g = one_found _ f g h k in
      (λ n. record { method = rule.method_record (same n) (rule.first_types t.name (is_static (same n)) (param_types params)) tree.no_stmts; steps = [] })

  pub one_class : (t : source.PlainType) (x y : PlainClass) → BecomesClass units t x → BecomesClass units t y → x ≡ y
  one_class t x y (rule.becomes_class {fields = fs} {s = s} {i = i} cs ms h k l m n) (rule.becomes_class {fields = gs} {s = r} {i = j} ds ns h2 k2 l2 m2 n2) =
      let fields : fs ≡ gs = one_list (FieldBecomes units) one_field _ fs gs h h2 in
      let statics : s ≡ r = one_statics t [] t.members s r k k2 in
      let instances : j ≡ i = one_instances t t.members j i l2 l in
      let constructors : cs ≡ ds = one_constructors t i cs ds m (subst (λ v. ConstructorsBecome units t v ds) instances m2) in
      let methods : ms ≡ ns = one_list (MethodBecomes units t) (one_method t) (rule.method_members t) ms ns n n2 in
      (λ p. rule.class_from t (fields p) (statics p) (constructors p ++ methods p))

  same_unit : (o : Option source.PlainUnit) (x y : source.PlainUnit) → o ≡ Some x → o ≡ Some y → y ≡ x
  same_unit o x y h k = let both : Some y ≡ Some x = sym k ∙ h in cc

  pub one_unit : (own : ℕ) (u v : PlainUnit) → Elaborates units own u → Elaborates units own v → u ≡ v
  one_unit own u v x y =
      let same : y.unit ≡ x.unit = same_unit _ x.unit y.unit x.is_own y.is_own in
      let classes : u.classes ≡ v.classes = one_list (BecomesClass units) one_class x.unit u.classes v.classes x.classes (subst (λ l. AllZip (BecomesClass units) l v.classes) same y.classes) in
      (λ i. record { classes = classes i })
