-- Code that grows body by body is that of all bodies.
use Rattle.std.proofs.Common.{◌≡◌, ◌⊎◌, inl, inr, refl, map, ap, sym, ◌∙◌, ℕ, ◌+◌, List, [], ◌∷◌, ◌++◌, length, append-nil, append_assoc, length-append}
use Rattle.std.proofs.lemmas.List.{length_push}
use Rattle.bcj_symbolic_measure.specs.Entries.{PlainEntry}
use Rattle.bcj_lower_rules.specs.Bodies.{Body}
use Rattle.bcj_lower_rules.specs.Classes.{body_words, all_words, all_uses, relocations_at, body_relocations, all_relocations, method_code, all_methods, body_ranges, all_ranges, code_of_bodies}
use Rattle.bcj_lower_words.specs.declared.line.Line.{Line}
use Rattle.bcj_lower_words.specs.Views.{line_of}
use Rattle.bcj_lower.specs.function.Tables.{PlainTables, tables_of}
use Rattle.bcj_lower.specs.function.Emitted.{Parts, no_parts, with_body, with_bodies}

-- all bodies behind some parts
abbrev behind : List PlainEntry → Parts → List Body → Parts
behind uses p bs = record {
  words = p.words ++ all_words bs;
  relocations = p.relocations ++ all_relocations uses (length p.words) bs;
  methods = p.methods ++ all_methods (length p.words) bs;
  ranges = p.ranges ++ all_ranges (length p.methods) (length p.words) bs;
}

-- a body that is added goes before the rest
one-behind : (uses : List PlainEntry) (p : Parts) (b : Body) (bs : List Body) → behind uses (with_body uses p b) bs ≡ behind uses p (b ∷ bs)
one-behind uses p b bs =
    let start = length p.words in
    let e : length (p.words ++ body_words b) ≡ start + length (body_words b) = length-append p.words (body_words b) in
    let f : length (p.methods ++ method_code start b ∷ []) ≡ length p.methods + 1 = length_push p.methods (method_code start b) in
    λ i. record {
      words = append_assoc p.words (body_words b) (all_words bs) i;
      relocations = (ap (λ n. (p.relocations ++ body_relocations uses start b) ++ all_relocations uses n bs) e
          ∙ append_assoc p.relocations (body_relocations uses start b) (all_relocations uses (start + length (body_words b)) bs)) i;
      methods = (ap (λ n. (p.methods ++ method_code start b ∷ []) ++ all_methods n bs) e
          ∙ append_assoc p.methods (method_code start b ∷ []) (all_methods (start + length (body_words b)) bs)) i;
      ranges = (ap (λ n. (p.ranges ++ body_ranges (length p.methods) start b) ++ all_ranges n (length (p.words ++ body_words b)) bs) f
          ∙ ap (λ n. (p.ranges ++ body_ranges (length p.methods) start b) ++ all_ranges (length p.methods + 1) n bs) e
          ∙ append_assoc p.ranges (body_ranges (length p.methods) start b) (all_ranges (length p.methods + 1) (start + length (body_words b)) bs)) i;
    }

-- bodies that are added one by one stand behind what was there
all-behind : (uses : List PlainEntry) (p : Parts) (bs : List Body) → with_bodies uses p bs ≡ behind uses p bs
all-behind uses p [] =
    λ i. record {
      words = sym (append-nil p.words) i;
      relocations = sym (append-nil p.relocations) i;
      methods = sym (append-nil p.methods) i;
      ranges = sym (append-nil p.ranges) i;
    }
all-behind uses p (b ∷ bs) = all-behind uses (with_body uses p b) bs ∙ one-behind uses p b bs

-- and behind nothing they are all
all-emitted : (uses : List PlainEntry) (bs : List Body) → with_bodies uses no_parts bs ≡ behind uses no_parts bs
all-emitted uses bs = all-behind uses no_parts bs

-- with the tables of all uses it is the code of the bodies
pub code-built : (bs : List Body) (t : PlainTables) (p : Parts) → t ≡ tables_of (all_uses bs) → p ≡ with_bodies (all_uses bs) no_parts bs
    → record {
      words = p.words;
      relocations = p.relocations;
      methods = p.methods;
      ranges = p.ranges;
      ctable = t.classes;
      otable = t.offsets;
      atable = t.addresses;
      itable = t.interfaces;
    } ≡ code_of_bodies bs
unfolding code_of_bodies
code-built bs t p et ep =
    let e : p ≡ behind (all_uses bs) no_parts bs = ep ∙ all-emitted (all_uses bs) bs in
    λ i. record {
      words = (e i).words;
      relocations = (e i).relocations;
      methods = (e i).methods;
      ranges = (e i).ranges;
      ctable = (et i).classes;
      otable = (et i).offsets;
      atable = (et i).addresses;
      itable = (et i).interfaces;
    }

-- where lines or places are used up, no relocation is left
pub used_up : (uses : List PlainEntry) (start : ℕ) (ls : List Line) (ps : List ℕ) → (ls ≡ []) ⊎ (ps ≡ []) → relocations_at uses start (map line_of ls) ps ≡ []
used_up uses start [] ps h = refl
used_up uses start (x ∷ ls) [] h = refl
used_up uses start (x ∷ ls) (p ∷ ps) (inl e) = cc
used_up uses start (x ∷ ls) (p ∷ ps) (inr e) = cc
