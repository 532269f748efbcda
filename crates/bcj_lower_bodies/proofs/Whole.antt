-- A whole body, by its parts, and the bodies of a class one after the other.
use Rattle.std.proofs.Common.{◌≡◌, refl, ap, sym, ◌∙◌, subst, ℕ, ◌+◌, ◌-◌, ◌<◌, Bool, true, false, if◌then◌else◌, List, [], ◌∷◌, ◌++◌, length, drop, get_or, map, append_assoc, add-one, Option, None, Result, Ok, Err, IfOk, IfErr, OnOk}
use Rattle.std.proofs.lemmas.List.{map-append, get_or-map}
use Rattle.std.proofs.lemmas.Result.{on_ok_weaker}
use Rattle.rv_steps.specs.Services as services
use Rattle.bcj_symbolic_trees.specs.declared.class_tree.SymMethod.{SymMethod}
use Rattle.bcj_symbolic_trees.specs.Trees.{PlainStmts}
use Rattle.bcj_symbolic_trees.specs.Units.{PlainMethod, PlainClass, method_of}
use Rattle.bcj_symbolic_check.specs.Judgements.{Frame}
use Rattle.bcj_symbolic_check.specs.Classes.{is_abstract, init_frame, method_frame}
use Rattle.bcj_symbolic_measure.specs.declared.measured.BodySize.{BodySize}
use Rattle.bcj_symbolic_measure.specs.Bodies.{init_frame_size, method_frame_size}
use Rattle.bcj_symbolic_measure.specs.Measures.{body_sizes}
use Rattle.bcj_lower_rules.specs.declared.limit.Limit.{Limit}
use Rattle.bcj_lower_rules.specs.Lines.{Line, place}
use Rattle.bcj_lower_rules.specs.Words.{enter, exit, region_first, region_second, service}
use Rattle.bcj_lower_rules.specs.Nodes.{Around, stmts_lines}
use Rattle.bcj_lower_rules.specs.Ranges.{LabelRange, stmts_ranges}
use Rattle.bcj_lower_rules.specs.Bodies.{Body, without_code, with_code, zero_locals, no_loop, last_value, parameters, superclass_lines, init_start, init_end, init_target, init_labels, init_range, method_lines, method_body, init_lines, init_body, method_bodies, bodies_of, first_excess}
use Rattle.bcj_lower_rules.specs.Laws.{LongIsMeasured}
use Rattle.bcj_lower_bodies.specs.declared.body.BodyCode.{BodyCode}
use Rattle.bcj_lower_bodies.specs.declared.stop.LowerStop.{LowerStop}
use Rattle.bcj_lower_bodies.specs.Views.{body_of}
use Rattle.bcj_lower_bodies.specs.Stops.{IsStop}
use Rattle.bcj_lower_bodies.specs.function.Sizes.{frames_of, sizes_excess, class_frames}
use Rattle.bcj_lower_bodies.proofs.Steps.{list_more}
use Rattle.bcj_lower_bodies.proofs.Excess.{class-excess, class-framed}

-- ---- a method

five_behind : (v v1 v2 v3 v4 v5 a b c d e : List Line) → v ≡ [] → v1 ≡ v ++ a → v2 ≡ v1 ++ b → v3 ≡ v2 ++ c → v4 ≡ v3 ++ d → v5 ≡ v4 ++ e
    → v5 ≡ a ++ (b ++ (c ++ (d ++ e)))
five_behind v v1 v2 v3 v4 v5 a b c d e p p1 p2 p3 p4 p5 =
    p5
    ∙ ap (λ (l : List Line). l ++ e) (p4 ∙ ap (λ (l : List Line). l ++ d) (p3 ∙ ap (λ (l : List Line). l ++ c) (p2 ∙ ap (λ (l : List Line). l ++ b) (p1 ∙ ap (λ (l : List Line). l ++ a) p))))
    ∙ simp append_assoc

-- its frame, its locals, its typing and its statements make its lines
pub method_made : (c : PlainClass) (m : PlainMethod) (v v1 v2 v3 v4 v5 : List Line) (frame first zeroed locals : ℕ) (typing : Frame) (body : PlainStmts) (around : Around)
    → frame ≡ method_frame_size m → first ≡ parameters m → locals ≡ length m.locals → zeroed ≡ locals - first → typing ≡ method_frame c m → body ≡ m.body → around ≡ no_loop
    → v ≡ [] → v1 ≡ v ++ enter frame → v2 ≡ v1 ++ zero_locals frame first zeroed
    → v3 ≡ v2 ++ stmts_lines (record { typing = typing; frame = frame }) around 0 body → v4 ≡ v3 ++ last_value m.result → v5 ≡ v4 ++ exit frame → v5 ≡ method_lines c m
unfolding method_lines
method_made c m v v1 v2 v3 v4 v5 frame first zeroed locals typing body around ef ep el ez et eb ea p p1 p2 p3 p4 p5 =
    five_behind v v1 v2 v3 v4 v5 (enter frame) (zero_locals frame first zeroed) (stmts_lines (record { typing = typing; frame = frame }) around 0 body) (last_value m.result) (exit frame) p p1 p2 p3 p4 p5
    ∙ (λ i. enter (ef i) ++ (zero_locals (ef i) (ep i) ((ez ∙ (λ j. el j - ep j)) i) ++ (stmts_lines (record { typing = et i; frame = ef i }) (ea i) 0 (eb i) ++ (last_value m.result ++ exit (ef i)))))

-- an abstract method has no code
pub abstract_body : (c : PlainClass) (m : PlainMethod) (b : Bool) → b ≡ is_abstract m.kind → b ≡ true → without_code ≡ method_body c m
unfolding method_body
abstract_body c m b eb is =
    ap (λ (a : Bool). if a then without_code else with_code (method_frame_size m) (method_lines c m) (stmts_ranges 0 m.body)) (sym is ∙ eb)

-- and another has that of its frame, lines and ranges
pub method_coded : (c : PlainClass) (m : PlainMethod) (b : Bool) (f frame : ℕ) (lines : List Line) (ranges : List LabelRange) → b ≡ is_abstract m.kind → b ≡ false
    → f ≡ frame → frame ≡ method_frame_size m → lines ≡ method_lines c m → ranges ≡ stmts_ranges 0 m.body → with_code f lines ranges ≡ method_body c m
unfolding method_body
method_coded c m b f frame lines ranges eb is e ef el er =
    (λ i. with_code ((e ∙ ef) i) (el i) (er i))
    ∙ ap (λ (a : Bool). if a then without_code else with_code (method_frame_size m) (method_lines c m) (stmts_ranges 0 m.body)) (sym is ∙ eb)

-- ---- the class initialiser

pub init_made : (c : PlainClass) (frame : ℕ) (v v1 v2 v3 : List Line) (r r1 r2 : List LabelRange) (typing : Frame) (body : PlainStmts) (around : Around)
    → frame ≡ init_frame_size c → typing ≡ init_frame c → body ≡ c.init.body → around ≡ no_loop
    → v ≡ [] → v1 ≡ v ++ (enter frame ++ (zero_locals frame 0 (length c.init.locals) ++ (place init_start ++ superclass_lines c.head.superclass)))
    → v2 ≡ v1 ++ stmts_lines (record { typing = typing; frame = frame }) around init_labels body
    → v3 ≡ v2 ++ (region_first ++ (service services.init_done ++ (place init_end ++ (exit frame ++ (place init_target ++ (region_second ++ (service services.init_failed ++ service services.throw)))))))
    → r ≡ [] → r1 ≡ r ++ stmts_ranges init_labels body → r2 ≡ r1 ++ init_range ∷ [] → with_code frame v3 r2 ≡ init_body c
unfolding init_body init_lines
init_made c frame v v1 v2 v3 r r1 r2 typing body around ef et eb ea p p1 p2 p3 q q1 q2 =
    λ i. with_code (ef i)
    ((p3
    ∙ ap (λ (l : List Line). l ++ rest frame) (p2 ∙ ap (λ (l : List Line). l ++ stmts_lines (record { typing = typing; frame = frame }) around init_labels body) (p1 ∙ ap (λ (l : List Line). l ++ first frame) p))
    ∙ (λ j. (first (ef j) ++ stmts_lines (record { typing = et j; frame = ef j }) (ea j) init_labels (eb j)) ++ rest (ef j))
    ∙ apart (stmts_lines (record { typing = init_frame c; frame = init_frame_size c }) no_loop init_labels c.init.body) (rest (init_frame_size c))) i)
    ((q2 ∙ ap (λ (l : List LabelRange). l ++ init_range ∷ []) (q1 ∙ (λ j. q j ++ stmts_ranges init_labels (eb j)))) i)
  where
    first : ℕ → List Line
    first f = enter f ++ (zero_locals f 0 (length c.init.locals) ++ (place init_start ++ superclass_lines c.head.superclass))

    rest : ℕ → List Line
    rest f = region_first ++ (service services.init_done ++ (place init_end ++ (exit f ++ (place init_target ++ (region_second ++ (service services.init_failed ++ service services.throw))))))

    apart : (a b : List Line)
        → (first (init_frame_size c) ++ a) ++ b
        ≡ enter (init_frame_size c) ++ (zero_locals (init_frame_size c) 0 (length c.init.locals) ++ (place init_start ++ (superclass_lines c.head.superclass ++ (a ++ b))))
    apart a b = simp append_assoc

-- ---- the frames of a class

framed : {T E : Type 0} (r : Result T E) (items : T → List ℕ) (sizes : List BodySize) (frames : List ℕ) → (sizes_excess sizes ≡ None → frames_of sizes ≡ frames)
    → OnOk r (sizes_excess sizes ≡ None) → IfOk r (λ v. items v ≡ frames_of sizes) → IfOk r (λ v. items v ≡ frames)
framed (Ok v) items sizes frames h within p = p ∙ h within
framed (Err x) items sizes frames h within p = p

module _ (law : LongIsMeasured) (c : PlainClass) (sizes s : List BodySize) (es : s ≡ sizes) (e : sizes ≡ body_sizes c) where
  all-excess : sizes_excess s ≡ first_excess (bodies_of c)
  all-excess = ap sizes_excess (es ∙ e) ∙ class-excess law c

  pub frames_made : {T E : Type 0} (r : Result T E) (items : T → List ℕ) → OnOk r (sizes_excess s ≡ None) → IfOk r (λ v. items v ≡ frames_of s) → IfOk r (λ v. items v ≡ class_frames c)
  frames_made r items within p =
      framed r items s (class_frames c) (λ h. ap frames_of (es ∙ e) ∙ class-framed c (sym (ap sizes_excess (es ∙ e)) ∙ h)) within p

  pub within_made : {T E : Type 0} (r : Result T E) → OnOk r (sizes_excess s ≡ None) → OnOk r (first_excess (bodies_of c) ≡ None)
  within_made r within = on_ok_weaker r (λ (h : sizes_excess s ≡ None). sym all-excess ∙ h) within

  pub stop_made : {T : Type 0} (r : Result T LowerStop) → IfErr r (λ x. IsStop (sizes_excess s) x) → IfErr r (λ x. IsStop (first_excess (bodies_of c)) x)
  stop_made r p = subst (λ (o : Option Limit). IfErr r (λ x. IsStop o x)) all-excess p

-- ---- bodies, one after the other

frame_of_method : (a : ℕ) (ms : List SymMethod) (i : ℕ) (m : SymMethod) → i < length ms → m ≡ get_or ms i m
    → get_or (a ∷ map method_frame_size (map method_of ms)) (i + 1) 0 ≡ method_frame_size (method_of m)
frame_of_method a ms i m h is =
    ap (λ n. get_or (a ∷ map method_frame_size (map method_of ms)) n 0) (add-one i)
    ∙ ap (λ (l : List ℕ). get_or l i 0) (map-map ms)
    ∙ get_or-map (λ (x : SymMethod). method_frame_size (method_of x)) ms i m 0 h
    ∙ ap (λ (x : SymMethod). method_frame_size (method_of x)) (sym is)
  where
    map-map : (l : List SymMethod) → map method_frame_size (map method_of l) ≡ map (λ (x : SymMethod). method_frame_size (method_of x)) l
    map-map [] = refl
    map-map (x ∷ l) = λ j. method_frame_size (method_of x) ∷ map-map l j

-- that of the initialiser stands before those of the methods
pub frame_at : (a : ℕ) (frames : List ℕ) (xs ms : List SymMethod) (i : ℕ) (m : SymMethod) → frames ≡ a ∷ map method_frame_size (map method_of xs) → ms ≡ xs
    → i < length ms → m ≡ get_or ms i m → get_or frames (i + 1) 0 ≡ method_frame_size (method_of m)
frame_at a frames xs ms i m ef em h is =
    ap (λ (l : List ℕ). get_or l (i + 1) 0) (ef ∙ ap (λ (l : List SymMethod). a ∷ map method_frame_size (map method_of l)) (sym em))
    ∙ frame_of_method a ms i m h is

pub bodies_more : (c : PlainClass) (u w : List Body) (b : Body) (xs : List SymMethod) (i : ℕ) (m : SymMethod) → i < length xs → m ≡ get_or xs i m
    → b ≡ method_body c (method_of m) → w ++ method_bodies c (map method_of (drop i xs)) ≡ u → (w ++ b ∷ []) ++ method_bodies c (map method_of (drop (i + 1) xs)) ≡ u
bodies_more c u w b xs i m h is eb e =
    list_more (λ (l : List SymMethod). method_bodies c (map method_of l)) (method_body c (method_of m) ∷ []) (method_bodies c (map method_of (drop (i + 1) xs))) w (w ++ b ∷ []) u xs i m h is refl
    (ap (λ (x : Body). w ++ x ∷ []) eb) e

pub all_more : (c : PlainClass) (u : List Body) (w r : List BodyCode) (b : BodyCode) (xs : List SymMethod) (i : ℕ) (m : SymMethod) → i < length xs → m ≡ get_or xs i m
    → body_of b ≡ method_body c (method_of m) → r ≡ w ++ b ∷ [] → map body_of w ++ method_bodies c (map method_of (drop i xs)) ≡ u
    → map body_of r ++ method_bodies c (map method_of (drop (i + 1) xs)) ≡ u
all_more c u w r b xs i m h is eb er e =
    ap (λ (l : List Body). l ++ method_bodies c (map method_of (drop (i + 1) xs))) (ap (map body_of) er ∙ map-append body_of w (b ∷ []))
    ∙ bodies_more c u (map body_of w) (body_of b) xs i m h is eb e
