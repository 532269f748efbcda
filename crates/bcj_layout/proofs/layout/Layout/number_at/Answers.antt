use Rattle.std.proofs.Common.{◌≡◌, ◌<◌, ◌≤◌, ◌∙◌, ℕ, List, length, get_or, ap, sym, subst, arith}
use Rattle.bcj_layout_rules.specs.Rows.{row_types}
use Rattle.bcj_layout_rules.specs.Places.{row_at}
use Rattle.bcj_layout_places.specs.Places.{ArePlaces}
use Rattle.bcj_layout.specs.LaidOut.{LaidOut}
use Rattle.bcj_layout.proofs.RowLemmas.{row-read, rows-few, rows-apart, kept-ordered}
use Rattle.bcj_layout.proofs.layout.Layout.number_at.Goals as goal

pub place_of-requires : goal.place_of-requires
place_of-requires c =
    let P : LaidOut → Type 0 = λ l. ArePlaces l.classes l.main c.self.inside.places in
    let places : ArePlaces c.args.self.now.classes c.args.self.now.main c.self.inside.places = subst P c.self.view_is c.self.invariant.places in
    let Q : List ℕ → Type 0 = λ l. (i j : ℕ) → i ≤ j → j < length l → get_or l i 0 ≤ get_or l j 0 in
    record { rising = subst Q (sym c.as_slice.ensures) (kept-ordered c.args.self.now.classes c.args.self.now.main c.self.inside.places.rows places.rows places.rows_count) }

pub returns-in-None-clause-none : goal.returns-in-None-clause-none
returns-in-None-clause-none c = λ n begins.
    let P : LaidOut → Type 0 = λ l. ArePlaces l.classes l.main c.self.inside.places in
    let places : ArePlaces c.args.self.now.classes c.args.self.now.main c.self.inside.places = subst P c.self.view_is c.self.invariant.places in
    let few : n ≤ length (row_types c.args.self.now.classes) = omega (arith, begins.within) in
    c.in-None.ensures.none n (omega (arith, ap length c.as_slice.ensures, places.rows_count, begins.within))
    (ap (λ l. get_or l n 0) c.as_slice.ensures ∙ (row-read c.args.self.now.classes c.args.self.now.main c.self.inside.places.rows n places.rows few ∙ begins.here))

pub returns-then-number-count-clause-there : goal.returns-then-number-count-clause-there
returns-then-number-count-clause-there c =
    let P : LaidOut → Type 0 = λ l. ArePlaces l.classes l.main c.self.inside.places in
    let places : ArePlaces c.args.self.now.classes c.args.self.now.main c.self.inside.places = subst P c.self.view_is c.self.invariant.places in
    let n : ℕ = c.in-Some.number in
    let within : n < length (row_types c.args.self.now.classes) = omega (arith, c.if-number-count.true, c.row_count-count.ensures) in
    record {
      within = within;
      here = sym (row-read c.args.self.now.classes c.args.self.now.main c.self.inside.places.rows n places.rows (omega (arith, within)))
          ∙ (sym (ap (λ l. get_or l n 0) c.as_slice.ensures) ∙ c.in-Some.ensures.there);
    }

pub returns-then-number-count-clause-few : goal.returns-then-number-count-clause-few
returns-then-number-count-clause-few c =
    let P : LaidOut → Type 0 = λ l. ArePlaces l.classes l.main c.self.inside.places in
    let places : ArePlaces c.args.self.now.classes c.args.self.now.main c.self.inside.places = subst P c.self.view_is c.self.invariant.places in
    let n : ℕ = c.in-Some.number in
    let within : n ≤ length (row_types c.args.self.now.classes) = omega (arith, c.if-number-count.true, c.row_count-count.ensures) in
    let here : row_at c.args.self.now.classes c.args.self.now.main n ≡ c.args.at =
    sym (row-read c.args.self.now.classes c.args.self.now.main c.self.inside.places.rows n places.rows within) ∙ (sym (ap (λ l. get_or l n 0) c.as_slice.ensures) ∙ c.in-Some.ensures.there) in
    let few : n ≤ row_at c.args.self.now.classes c.args.self.now.main n = rows-few c.args.self.now.classes c.args.self.now.main n within in
    let small : c.args.at < 4294967296 = omega (arith, c.ranges.at.fits) in
    below few here small
  where
    below : {n a b : ℕ} → n ≤ a → a ≡ b → b < 4294967296 → n < 4294967296
    below x y z = omega arith

pub returns-else-number-count-clause-none : goal.returns-else-number-count-clause-none
returns-else-number-count-clause-none c = λ n begins.
    let P : LaidOut → Type 0 = λ l. ArePlaces l.classes l.main c.self.inside.places in
    let places : ArePlaces c.args.self.now.classes c.args.self.now.main c.self.inside.places = subst P c.self.view_is c.self.invariant.places in
    let k : ℕ = c.in-Some.number in
    let behind : length (row_types c.args.self.now.classes) ≤ k = omega (arith, c.if-number-count.false, c.row_count-count.ensures) in
    let within : k ≤ length (row_types c.args.self.now.classes) = omega (arith, c.in-Some.ensures.within, ap length c.as_slice.ensures, places.rows_count) in
    let here : row_at c.args.self.now.classes c.args.self.now.main k ≡ c.args.at =
    sym (row-read c.args.self.now.classes c.args.self.now.main c.self.inside.places.rows k places.rows within) ∙ (sym (ap (λ l. get_or l k 0) c.as_slice.ensures) ∙ c.in-Some.ensures.there) in
    let few : n ≤ length (row_types c.args.self.now.classes) = omega (arith, begins.within) in
    let same : n ≡ k = rows-apart c.args.self.now.classes c.args.self.now.main n k few within (begins.here ∙ sym here) in
    apart same begins.within behind
  where
    apart : {n k m : ℕ} → n ≡ k → n < m → m ≤ k → ⊥
    apart x y z = omega arith
