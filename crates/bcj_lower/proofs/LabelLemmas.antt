-- The places of labels by the places of items are those among the items in their forms.
use Rattle.std.proofs.Common.{◌≡◌, ◌⊎◌, inl, inr, refl, ap, sym, ◌∙◌, ℕ, ◌+◌, List, [], ◌∷◌, Option, Some, None, map}
use Rattle.std.specs.Prelude.{unwrap_or}
use Rattle.bcj_asm.specs.declared.forms.Formed.{Formed}
use Rattle.bcj_asm.specs.declared.item.Item.{Item}
use Rattle.bcj_asm.specs.Forms.{formed, last_of, own_place, place_in, places_in, places_of, size, target_in}
use Rattle.bcj_asm.specs.Reach.{items_in}
use Rattle.bcj_lower_rules.specs.Lines as rules
use Rattle.bcj_lower_rules.specs.Lines.{items_of}
use Rattle.bcj_lower_words.specs.declared.line.Line.{Line}
use Rattle.bcj_lower_words.specs.Views.{line_of}
use Rattle.bcj_lower.specs.declared.labels.LabelPlaces.{LabelPlaces}
use Rattle.bcj_lower.specs.function.Labels.{HasPlaces, label_place, last_place}

-- a later place counts before an earlier one
unwrap_last : (a o : Option ℕ) (d : ℕ) → unwrap_or (last_of a o) d ≡ unwrap_or o (unwrap_or a d)
unwrap_last a None d = refl
unwrap_last a (Some p) d = refl

-- the last place by the places of items in their forms is that among them
pub last_placed : (xs : List Formed) (here before l : ℕ) → last_place before (items_in xs) (places_in here xs) l ≡ unwrap_or (place_in here xs l) before
last_placed [] here before l = refl
last_placed (x ∷ xs) here before l =
    last_placed xs (here + size x.form x.item) (unwrap_or (own_place here x.item l) before) l
    ∙ sym (unwrap_last (own_place here x.item l) (place_in (here + size x.form x.item) xs l) before)

-- where lines or places are used up, no label is placed any more
pub used_up : (before : ℕ) (ls : List Line) (ps : List ℕ) (l : ℕ) → (ls ≡ []) ⊎ (ps ≡ []) → last_place before (items_of (map line_of ls)) ps l ≡ before
used_up before [] ps l h = refl
used_up before (x ∷ ls) [] l h = refl
used_up before (x ∷ ls) (p ∷ ps) l (inl e) = cc
used_up before (x ∷ ls) (p ∷ ps) l (inr e) = cc

-- labels that have their places by the places of items have those among the lines
pub labels-placed : (t : LabelPlaces) (lines : List rules.Line) (items : List Item) (places seen : List ℕ)
    → items ≡ items_of lines → items_in (formed items) ≡ items → places ≡ places_of items → seen ≡ places
    → ((l : ℕ) → label_place t l ≡ last_place 0 (items_of lines) seen l) → HasPlaces t lines
labels-placed t lines items places seen ei es ep ev h =
    record {
      at = λ l. h l
          ∙ ap (λ (is : List Item). last_place 0 is seen l) (sym ei)
          ∙ ap (λ (ps : List ℕ). last_place 0 items ps l) (ev ∙ ep)
          ∙ ap (λ (is : List Item). last_place 0 is (places_of items) l) (sym es)
          ∙ last_placed (formed items) 0 0 l
          ∙ ap (λ (is : List Item). target_in (formed is) l) ei;
    }
