-- The parts of an object together.
use Rattle.std.proofs.Common.{◌≡◌, refl, ap, ◌∙◌, ℕ, ◌%◌, List, [], ◌∷◌, length, arith}
use Rattle.bcj_symbolic_trees.specs.Units.{PlainClass, PlainUnit}
use Rattle.bcj_object_rules.specs.Objects.{object_at, object_of}
use Rattle.bcj_object_soundness.specs.Laws.{SymbolsArePlaced, TextRelocationsAreInPlace, TabRelocationsAreInPlace, ObjectsAreSmall, ObjectsAreWellFormed}
use Rattle.bcj_object_soundness.proofs.Sizes.{texts, tabs, text-length, tab-length}

-- code and tables are made of words

texts-whole : (cs : List PlainClass) → texts cs % 4 ≡ 0
unfolding texts
texts-whole [] = refl
texts-whole (c ∷ cs) = omega (arith, texts-whole cs)

tabs-whole : (cs : List PlainClass) → tabs cs % 4 ≡ 0
unfolding tabs
tabs-whole [] = refl
tabs-whole (c ∷ cs) = omega (arith, tabs-whole cs)

text-bytes : (version : ℕ) (u : PlainUnit) → length (object_of version u).text ≡ texts u.classes
unfolding object_at
text-bytes version u = text-length 0 0 0 u.classes

tab-bytes : (version : ℕ) (u : PlainUnit) → length (object_of version u).tab ≡ tabs u.classes
unfolding object_at
tab-bytes version u = tab-length 0 0 0 u.classes

pub well-formed : SymbolsArePlaced → TextRelocationsAreInPlace → TabRelocationsAreInPlace → ObjectsAreSmall → ObjectsAreWellFormed
well-formed symbols text tab sizes version u typed small = record {
  text_words = ap (λ n. n % 4) (text-bytes version u) ∙ texts-whole u.classes;
  tab_words = ap (λ n. n % 4) (tab-bytes version u) ∙ tabs-whole u.classes;
  symbols = symbols version u typed;
  text_relocs = text version u small;
  tab_relocs = tab version u small;
  small = sizes version u small;
}
