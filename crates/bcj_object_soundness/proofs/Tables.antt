-- The four tables of a class have each of its entries once, in the order of first use: what is summed over the entries of the tables
-- is the sum over all entries. Entries whose table is that of their kind of target take the bytes that are measured.
use Rattle.std.proofs.Common.{◌≡◌, refl, ap, sym, ◌∙◌, ℕ, ◌+◌, ◌≤◌, ◌||◌, Bool, true, false, List, [], ◌∷◌, ◌++◌, length, if◌then◌else◌, arith}
use Rattle.std.specs.List.{list_any}
use Rattle.std.proofs.lemmas.List.{append-nil}
use Rattle.bcj_symbolic_measure.specs.declared.entry.Role.{Role}
use Rattle.bcj_symbolic_measure.specs.declared.entry.Role.TheVariants as role
use Rattle.bcj_symbolic_measure.specs.Entries.{PlainTarget, type_target, field_target, method_target, PlainEntry, same_entry, with_entry, with_entries, entries_of, entry_size, entries_size, role_size, target_size, string_size, u8_size, EntriesLaw}
use Rattle.bcj_object_rules.specs.Records.{target_class, target_name, target_descriptor}
use Rattle.bcj_lower_rules.specs.Classes.{Table, class_table, offset_table, address_table, interface_table, table_of, same_table, uses_of, table}

or-true : (b : Bool) → (b || true) ≡ true
or-true true = refl
or-true false = refl

-- ---- which entries are of a table

abbrev pub is_in : Table → PlainEntry → Bool
is_in t e = same_table t (table_of e.role)

uses_of-append : (t : Table) (a b : List PlainEntry) → uses_of t (a ++ b) ≡ uses_of t a ++ uses_of t b
uses_of-append t [] b = refl
uses_of-append t (e ∷ a) b = by (is_in t e) (uses_of-append t a b)
  where
    by : (here : Bool) → uses_of t (a ++ b) ≡ uses_of t a ++ uses_of t b
        → (if here then e ∷ uses_of t (a ++ b) else uses_of t (a ++ b)) ≡ (if here then e ∷ uses_of t a else uses_of t a) ++ uses_of t b
    by true rest = ap (λ x. e ∷ x) rest
    by false rest = rest

module _ (law : EntriesLaw) where
  -- an entry of a table is among the entries of that table alone
  any-in : (t : Table) (e : PlainEntry) (es : List PlainEntry) → is_in t e ≡ true → list_any (same_entry e) (uses_of t es) ≡ list_any (same_entry e) es
  any-in t e [] h = refl
  any-in t e (x ∷ xs) h = by (is_in t x) refl (same_entry e x) refl (any-in t e xs h)
    where
      by : (here : Bool) → is_in t x ≡ here → (same : Bool) → same_entry e x ≡ same → list_any (same_entry e) (uses_of t xs) ≡ list_any (same_entry e) xs
          → list_any (same_entry e) (if here then x ∷ uses_of t xs else uses_of t xs) ≡ (same_entry e x || list_any (same_entry e) xs)
      by true p same q rest = ap (λ b. same_entry e x || b) rest
      by false p false q rest = rest ∙ sym (ap (λ b. b || list_any (same_entry e) xs) q)
      by false p true q rest =
          let equal : e ≡ x = (law.0 e x).0 q in
          let other : is_in t e ≡ false = ap (is_in t) equal ∙ p in cc

  -- one use more makes an entry of its own table alone
  uses_of-with : (t : Table) (es : List PlainEntry) (e : PlainEntry) → uses_of t (with_entry es e) ≡ (if is_in t e then with_entry (uses_of t es) e else uses_of t es)
  uses_of-with t es e = by (is_in t e) refl (list_any (same_entry e) es) refl
    where
      added : (here : Bool) → is_in t e ≡ here → uses_of t (es ++ e ∷ []) ≡ uses_of t es ++ (if here then e ∷ [] else [])
      added here p = uses_of-append t es (e ∷ []) ∙ ap (λ b. uses_of t es ++ (if b then e ∷ [] else [])) p

      by : (here : Bool) → is_in t e ≡ here → (there : Bool) → list_any (same_entry e) es ≡ there
          → uses_of t (if there then es else es ++ e ∷ []) ≡ (if here then with_entry (uses_of t es) e else uses_of t es)
      by true p true q = sym (ap (λ b. if b then uses_of t es else uses_of t es ++ e ∷ []) (any-in t e es p ∙ q))
      by true p false q = added true p ∙ sym (ap (λ b. if b then uses_of t es else uses_of t es ++ e ∷ []) (any-in t e es p ∙ q))
      by false p true q = refl
      by false p false q = added false p ∙ append-nil (uses_of t es)

  -- so do all
  uses_of-all : (t : Table) (es us : List PlainEntry) → uses_of t (with_entries es us) ≡ with_entries (uses_of t es) (uses_of t us)
  uses_of-all t es [] = refl
  uses_of-all t es (u ∷ us) = uses_of-all t (with_entry es u) us ∙ ap (λ x. with_entries x (uses_of t us)) (uses_of-with t es u) ∙ by (is_in t u)
    where
      by : (here : Bool) → with_entries (if here then with_entry (uses_of t es) u else uses_of t es) (uses_of t us) ≡ with_entries (uses_of t es) (if here then u ∷ uses_of t us else uses_of t us)
      by true = refl
      by false = refl

  -- a table has the entries of its kind
  pub table-is : (t : Table) (us : List PlainEntry) → table t us ≡ uses_of t (entries_of us)
  unfolding table entries_of
  table-is t us = sym (uses_of-all t [] us)

  -- a use behind itself makes no other entry
  pub with-twice : (es : List PlainEntry) (e : PlainEntry) → with_entry (with_entry es e) e ≡ with_entry es e
  with-twice es e = by (list_any (same_entry e) es) refl
    where
      itself : same_entry e e ≡ true
      itself = (law.0 e e).1 refl

      last : (xs : List PlainEntry) → list_any (same_entry e) (xs ++ e ∷ []) ≡ true
      last [] = ap (λ b. b || false) itself
      last (x ∷ xs) = ap (λ b. same_entry e x || b) (last xs) ∙ or-true (same_entry e x)

      by : (there : Bool) → list_any (same_entry e) es ≡ there → with_entry (if there then es else es ++ e ∷ []) e ≡ (if there then es else es ++ e ∷ [])
      by true q = ap (λ b. if b then es else es ++ e ∷ []) q
      by false q = ap (λ b. if b then es ++ e ∷ [] else (es ++ e ∷ []) ++ e ∷ []) (last es)

-- ---- sums

abbrev pub weigh : (PlainEntry → ℕ) → List PlainEntry → ℕ
weigh g [] = 0
weigh g (e ∷ es) = g e + weigh g es

pub weigh-append : (g : PlainEntry → ℕ) (a b : List PlainEntry) → weigh g (a ++ b) ≡ weigh g a + weigh g b
weigh-append g [] b = omega arith
weigh-append g (e ∷ a) b = omega (arith, weigh-append g a b)

-- each entry is of one table
pub four : (g : PlainEntry → ℕ) (es : List PlainEntry)
    → weigh g (uses_of class_table es) + weigh g (uses_of offset_table es) + weigh g (uses_of address_table es) + weigh g (uses_of interface_table es) ≡ weigh g es
four g [] = refl
four g (e ∷ es) = by (table_of e.role) (four g es)
  where
    by : (t : Table)
        → weigh g (uses_of class_table es) + weigh g (uses_of offset_table es) + weigh g (uses_of address_table es) + weigh g (uses_of interface_table es) ≡ weigh g es
        → weigh g (if same_table class_table t then e ∷ uses_of class_table es else uses_of class_table es)
        + weigh g (if same_table offset_table t then e ∷ uses_of offset_table es else uses_of offset_table es)
        + weigh g (if same_table address_table t then e ∷ uses_of address_table es else uses_of address_table es)
        + weigh g (if same_table interface_table t then e ∷ uses_of interface_table es else uses_of interface_table es)
        ≡ g e + weigh g es
    by class_table rest = omega arith
    by offset_table rest = omega arith
    by address_table rest = omega arith
    by interface_table rest = omega arith

abbrev one : PlainEntry → ℕ
one e = 1

counted : (es : List PlainEntry) → weigh one es ≡ length es
counted [] = refl
counted (e ∷ es) = omega (arith, counted es)

pub four-lengths : (es : List PlainEntry)
    → length (uses_of class_table es) + length (uses_of offset_table es) + length (uses_of address_table es) + length (uses_of interface_table es) ≡ length es
four-lengths es =
    omega (
      arith,
      four one es,
      counted es,
      counted (uses_of class_table es),
      counted (uses_of offset_table es),
      counted (uses_of address_table es),
      counted (uses_of interface_table es),
    )

pub measured-sizes : (es : List PlainEntry) → weigh entry_size es ≡ entries_size es
measured-sizes [] = refl
measured-sizes (e ∷ es) = ap (λ k. entry_size e + k) (measured-sizes es)

-- entries are made of no more than their uses
weigh-with : (g : PlainEntry → ℕ) (es : List PlainEntry) (e : PlainEntry) → weigh g (with_entry es e) ≤ weigh g es + g e
weigh-with g es e = by (list_any (same_entry e) es)
  where
    by : (there : Bool) → weigh g (if there then es else es ++ e ∷ []) ≤ weigh g es + g e
    by true = omega arith
    by false = omega (arith, weigh-append g es (e ∷ []))

pub weigh-entries : (g : PlainEntry → ℕ) (es us : List PlainEntry) → weigh g (with_entries es us) ≤ weigh g es + weigh g us
weigh-entries g es [] = omega arith
weigh-entries g es (u ∷ us) = omega (arith, weigh-entries g (with_entry es u) us, weigh-with g es u)

-- ---- bytes

-- an entry names what its role asks for
abbrev pub is_proper : Role → PlainTarget → Bool
is_proper role.Row (type_target t) = true
is_proper role.New (type_target t) = true
is_proper role.FieldOffset (field_target f) = true
is_proper role.MethodOffset (method_target m) = true
is_proper role.FieldAddress (field_target f) = true
is_proper role.StaticMethod (method_target m) = true
is_proper role.SpecialMethod (method_target m) = true
is_proper role.InterfaceMethod (method_target m) = true
is_proper _ _ = false

abbrev pub impropriety : PlainEntry → ℕ
impropriety e = if is_proper e.role e.target then 0 else 1

pub none-improper : (b : Bool) → ◌≡◌ {A = ℕ} (if b then 0 else 1) 0 → b ≡ true
none-improper true h = refl
none-improper false h = absurd (omega arith)

abbrev member_size : PlainTarget → ℕ
member_size y = string_size (target_class y) + (string_size (target_name y) + string_size (target_descriptor y))

-- the bytes of an entry in a table
abbrev pub spelled_in : Table → PlainTarget → ℕ
spelled_in class_table y = u8_size + string_size (target_descriptor y)
spelled_in offset_table y = u8_size + member_size y
spelled_in address_table y = u8_size + member_size y
spelled_in interface_table y = member_size y

-- a proper entry has in its table the bytes that are measured
proper_size : (t : Table) (r : Role) (y : PlainTarget) → same_table t (table_of r) ≡ true → is_proper r y ≡ true → spelled_in t y ≡ role_size r + target_size y
proper_size class_table role.Row (type_target ty) h k = refl
proper_size class_table role.New (type_target ty) h k = refl
proper_size offset_table role.FieldOffset (field_target f) h k = refl
proper_size offset_table role.MethodOffset (method_target m) h k = refl
proper_size address_table role.FieldAddress (field_target f) h k = refl
proper_size address_table role.StaticMethod (method_target m) h k = refl
proper_size address_table role.SpecialMethod (method_target m) h k = refl
proper_size interface_table role.InterfaceMethod (method_target m) h k = omega arith
proper_size _ _ _ h k = cc

-- and so have all of a table
pub spelled-sizes : (t : Table) (es : List PlainEntry) → weigh impropriety es ≡ 0 → weigh (λ e. spelled_in t e.target) (uses_of t es) ≡ weigh entry_size (uses_of t es)
spelled-sizes t [] h = refl
spelled-sizes t (e ∷ es) h = by (is_in t e) refl (spelled-sizes t es (omega arith))
  where
    by : (here : Bool) → is_in t e ≡ here → weigh (λ x. spelled_in t x.target) (uses_of t es) ≡ weigh entry_size (uses_of t es)
        → weigh (λ x. spelled_in t x.target) (if here then e ∷ uses_of t es else uses_of t es) ≡ weigh entry_size (if here then e ∷ uses_of t es else uses_of t es)
    by false p rest = rest
    by true p rest =
        let proper : is_proper e.role e.target ≡ true = none-improper (is_proper e.role e.target) (omega arith) in
        (λ i. proper_size t e.role e.target p proper i + rest i)
