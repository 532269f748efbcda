-- Objects are taken in one by one.
use Rattle.std.proofs.Common.{◌≡◌, ℕ, suc, ◌+◌, ◌≤◌, List, [], ◌∷◌, ◌++◌, length, take, drop, map, Option, None, refl, sym, ap, subst, ◌∙◌, arith}
use Rattle.std.specs.Prelude.{◌||◌, is_some}
use Rattle.std.specs.List.{list_any, sum_by}
use Rattle.std.specs.Option.{option_or}
use Rattle.std.proofs.lemmas.List.{map-append, length-append, length-drop, length-take-le, take_all, take-append-le, drop-append-le, take-append-drop}
use Rattle.std.proofs.lemmas.List.Sums.{sum_by-cons, sum_by_push}
use Rattle.bcj_elf.specs.declared.object.Object.{Object}
use Rattle.bcj_elf.specs.Plain.{plain}
use Rattle.bcj_hier_rules.specs.Shapes.{Named}
use Rattle.bcj_hier_rules.specs.Heads.{AreDistinct}
use Rattle.bcj_layout_rules.specs.Rows.{Classes}
use Rattle.bcj_linker_rules.specs.Memory.{Linked, classes_of}
use Rattle.bcj_linker_objects.specs.declared.gathered.GatheredObject.{GatheredObject}
use Rattle.bcj_linker_objects.specs.declared.gathering.Gathering.{Gathering}
use Rattle.bcj_linker_objects.specs.declared.reading.ReadObject.{ReadObject}
use Rattle.bcj_linker_objects.specs.Objects.{IsLinked, AreLinked}
use Rattle.bcj_linker_objects.specs.Names.{heads_in, has_name, classes_each, owner}
use Rattle.bcj_linker_objects.specs.Gathering.{linked_in}
use Rattle.bcj_linker_objects.specs.Read.{linked_from}
use Rattle.bcj_linker_objects.specs.Steps.{owner_in, owner_among, AreNamed, AddsNames, Gathers, Puts}
use Rattle.bcj_linker_objects.proofs.Places.{some_position, position_more}
use Rattle.bcj_linker_objects.proofs.Distinct.{no_middle}
use Rattle.bcj_linker_objects.proofs.Noted.{has_name-append}

-- ---- lists of objects

abbrev pub count : GatheredObject → ℕ
count o = o.classes

abbrev linked_with : Object → Classes → Linked
linked_with o cs = record { object = plain o; classes = cs }

-- objects that have just these classes have them in order
pub counted_classes : (os : List GatheredObject) (cs : Classes) → sum_by count os ≡ length cs → classes_of (linked_in os cs) ≡ cs
counted_classes [] [] e = refl
counted_classes [] (c ∷ cs) e = absurd cc
counted_classes (o ∷ os) cs e =
    let parts : o.classes + sum_by count os ≡ length cs = sym (sum_by-cons count o os) ∙ e in
    let rest : sum_by count os ≡ length (drop o.classes cs) = rw (length-drop o.classes cs) (omega arith) in
    ap (λ l. take o.classes cs ++ l) (counted_classes os (drop o.classes cs) rest) ∙ take-append-drop o.classes cs

-- and each has as many as it says
pub each_counted : (os : List GatheredObject) (cs : Classes) → sum_by count os ≡ length cs → map count os ≡ map (λ (l : Linked). length l.classes) (linked_in os cs)
each_counted [] cs e = refl
each_counted (o ∷ os) cs e =
    let parts : o.classes + sum_by count os ≡ length cs = sym (sum_by-cons count o os) ∙ e in
    let within : o.classes ≤ length cs = omega arith in
    let rest : sum_by count os ≡ length (drop o.classes cs) = rw (length-drop o.classes cs) (omega arith) in
    ap (λ k. k ∷ map count os) (sym (length-take-le o.classes cs within)) ∙ ap (λ (l : List ℕ). length (take o.classes cs) ∷ l) (each_counted os (drop o.classes cs) rest)

-- one more object with all classes behind
linked_in-more : (os : List GatheredObject) (cs : Classes) (o : GatheredObject) (ds : Classes) → sum_by count os ≡ length cs → o.classes ≡ length ds
    → linked_in (os ++ o ∷ []) (cs ++ ds) ≡ linked_in os cs ++ linked_with o.object ds ∷ []
linked_in-more [] [] o ds e n = ap (λ l. linked_with o.object l ∷ []) (take_all o.classes ds (omega arith))
linked_in-more [] (c ∷ cs) o ds e n = absurd cc
linked_in-more (p ∷ os) cs o ds e n =
    let parts : p.classes + sum_by count os ≡ length cs = sym (sum_by-cons count p os) ∙ e in
    let within : p.classes ≤ length cs = omega arith in
    let rest : sum_by count os ≡ length (drop p.classes cs) = rw (length-drop p.classes cs) (omega arith) in
    ap (λ (l : Classes). linked_with p.object l ∷ linked_in (os ++ o ∷ []) (drop p.classes (cs ++ ds))) (take-append-le p.classes cs ds within)
    ∙ ap (λ (l : Classes). linked_with p.object (take p.classes cs) ∷ linked_in (os ++ o ∷ []) l) (drop-append-le p.classes cs ds within)
    ∙ ap (λ (l : List Linked). linked_with p.object (take p.classes cs) ∷ l) (linked_in-more os (drop p.classes cs) o ds rest n)

-- one more object is linked
pub are_linked-more : (all : List (List ℕ)) (ls : List Linked) (bytes : List ℕ) (l : Linked) → AreLinked all ls → IsLinked bytes l → AreLinked (all ++ bytes ∷ []) (ls ++ l ∷ [])
are_linked-more [] [] bytes l are is = (is, tt)
are_linked-more [] (k ∷ ls) bytes l are is = absurd are
are_linked-more (b ∷ all) [] bytes l are is = absurd are
are_linked-more (b ∷ all) (k ∷ ls) bytes l are is = (are.0, are_linked-more all ls bytes l are.1 is)

-- linked objects are as many as their bytes
are_linked-length : (all : List (List ℕ)) (ls : List Linked) → AreLinked all ls → length ls ≡ length all
are_linked-length [] [] are = refl
are_linked-length [] (k ∷ ls) are = absurd are
are_linked-length (b ∷ all) [] are = absurd are
are_linked-length (b ∷ all) (k ∷ ls) are = ap suc (are_linked-length all ls are.1)

-- and so are the lists of their classes
each_length : (ls : List Linked) → length (classes_each ls) ≡ length ls
each_length [] = refl
each_length (l ∷ ls) = ap suc (each_length ls)

-- a name is one of the classes of some object
each_has_name : (q : Named) (ls : List Linked) → list_any (has_name q) (classes_each ls) ≡ has_name q (classes_of ls)
each_has_name q [] = refl
each_has_name q (l ∷ ls) = ap (λ b. has_name q l.classes || b) (each_has_name q ls) ∙ sym (has_name-append q l.classes (classes_of ls))

-- ---- what is gathered

module _ (all : List (List ℕ)) (g : Gathering) (gathers : Gathers all g) where
  abbrev so_far : List Linked
  so_far = linked_in g.objects g.classes

  -- the classes of the objects are all that are gathered
  pub gathered_classes : classes_of so_far ≡ g.classes
  gathered_classes = counted_classes g.objects g.classes gathers.counted

  -- the names that have owners are those of the classes
  pub gathered_names : AreNamed g
  gathered_names = record {
    known = λ q.
        ap (λ (o : Option ℕ). is_some o) (gathers.owners q)
        ∙ some_position (has_name q) (classes_each so_far)
        ∙ each_has_name q so_far
        ∙ ap (has_name q) gathered_classes;
    distinct = gathers.distinct;
  }

  -- with one more object the owner is an earlier one, or that one
  pub owner_more : (q : Named) (cs : Classes) (number : ℕ) → length all ≡ number → option_or (owner_in g q) (owner_among number cs q) ≡ owner (classes_each so_far ++ cs ∷ []) q
  owner_more q cs number n =
      let len : length (classes_each so_far) ≡ number = each_length so_far ∙ are_linked-length all so_far gathers.linked ∙ n in
      ap (λ (o : Option ℕ). option_or o (owner_among number cs q)) (gathers.owners q)
      ∙ ap (λ k. option_or (owner (classes_each so_far) q) (owner_among k cs q)) (sym len)
      ∙ sym (position_more (has_name q) (classes_each so_far) cs)

  abbrev one_more : ReadObject → GatheredObject
  one_more read = record { object = read.object; classes = length read.classes }

  -- an object is taken in
  pub gathers-more : (mid new : Gathering) (bytes : List ℕ) (read : ReadObject) (number : ℕ) → length all ≡ number → IsLinked bytes (linked_from read) → AddsNames g mid read.classes number → Puts mid read new
      → Gathers (all ++ bytes ∷ []) new
  gathers-more mid new bytes read number n is adds puts =
      let classes : new.classes ≡ g.classes ++ read.classes = puts.classes ∙ ap (λ (l : Classes). l ++ read.classes) adds.classes in
      let objects : new.objects ≡ g.objects ++ one_more read ∷ [] = puts.objects ∙ ap (λ (l : List GatheredObject). l ++ one_more read ∷ []) adds.objects in
      let linked : linked_in new.objects new.classes ≡ so_far ++ linked_from read ∷ [] =
      ap (λ (l : List GatheredObject). linked_in l new.classes) objects
      ∙ ap (λ (l : Classes). linked_in (g.objects ++ one_more read ∷ []) l) classes
      ∙ linked_in-more g.objects g.classes (one_more read) read.classes gathers.counted refl in
      record {
        linked = subst (λ (l : List Linked). AreLinked (all ++ bytes ∷ []) l) (sym linked) (are_linked-more all so_far bytes (linked_from read) gathers.linked is);
        counted =
            ap (λ (l : List GatheredObject). sum_by count l) objects
            ∙ sum_by_push count g.objects (one_more read)
            ∙ ap (λ k. k + length read.classes) gathers.counted
            ∙ sym (length-append g.classes read.classes)
            ∙ ap (λ (l : Classes). length l) (sym classes);
        distinct = subst (λ (l : Classes). AreDistinct (heads_in l)) (sym classes) (adds.distinct gathered_names);
        owners = λ q.
            puts.owners q
            ∙ adds.owners q
            ∙ owner_more q read.classes number n
            ∙ ap (λ (l : List Classes). owner l q) (sym (map-append (λ (k : Linked). k.classes) so_far (linked_from read ∷ [])))
            ∙ ap (λ (l : List Linked). owner (classes_each l) q) (sym linked);
      }

-- no heads differ
none_distinct : AreDistinct []
none_distinct before h behind e = absurd (no_middle before h behind e)

-- no object
pub gathers_nothing : (g : Gathering) → g.classes ≡ [] → g.objects ≡ [] → ((q : Named) → owner_in g q ≡ None) → Gathers [] g
gathers_nothing g no_class no_object no_owner =
    let linked : linked_in g.objects g.classes ≡ [] = ap (λ (os : List GatheredObject). linked_in os g.classes) no_object in
    record {
      linked = subst (λ (ls : List Linked). AreLinked [] ls) (sym linked) tt;
      counted = ap (λ (os : List GatheredObject). sum_by count os) no_object ∙ ap (λ (cs : Classes). length cs) (sym no_class);
      distinct = subst (λ (cs : Classes). AreDistinct (heads_in cs)) (sym no_class) none_distinct;
      owners = λ q. no_owner q ∙ ap (λ (ls : List Linked). owner (classes_each ls) q) (sym linked);
    }
