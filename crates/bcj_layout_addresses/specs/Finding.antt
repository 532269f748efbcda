-- The word of the first method of each name and descriptor of a class, found by a reference to it.
use Rattle.std.specs.Prelude.{◌≡◌, ℕ, List, Option}
use Rattle.std.specs.List.{find}
use Rattle.std.specs.Option.{option_map}
use Rattle.indexmap.specs.IndexMap.{IndexMap, get}
use Rattle.bcj_tables_rules.specs.declared.records.MethodRecord.{MethodRecord}
use Rattle.bcj_hier_rules.specs.Shapes.{Named}
use Rattle.bcj_layout_rules.specs.Rows.{same_reference}
use Rattle.bcj_layout_rows.specs.declared.keys.ReferenceKey.{ReferenceKey}
use Rattle.bcj_layout_rows.specs.Keys.{reference_in}
use Rattle.bcj_layout_addresses.specs.Lists.{is_same_method, code_at}

abbrev pub word_by : {S : Type 0} → IndexMap ReferenceKey ℕ S → ReferenceKey → Option ℕ
word_by found key = get (λ (x y : ReferenceKey). same_reference (reference_in x) (reference_in y)) found key

-- where the first of these methods is, which are some of a class
abbrev pub HasFirst : {S : Type 0} → Named → ℕ → List MethodRecord → List MethodRecord → IndexMap ReferenceKey ℕ S → Type 0
HasFirst class text all methods found =
    (key : ReferenceKey) → key.class.now ≡ class → word_by found key ≡ option_map (code_at text all) (find (is_same_method key.name.now key.desc.now) methods)
