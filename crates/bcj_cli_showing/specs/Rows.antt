-- Examples by hand: lines of each kind, and the whole text of a class of one method.
use Rattle.std.specs.Fmt.{digits}
use Rattle.std.specs.Prelude.{◌≡◌, refl, true, false, [], ◌∷◌, None, Some, codes}
use Rattle.bcj_symbolic_trees.specs.declared.class_tree.ClassHead.{ClassHead}
use Rattle.bcj_symbolic_trees.specs.declared.class_tree.MethodKind.TheVariants as kind
use Rattle.bcj_tables_rules.specs.declared.records.AEntryKind.TheVariants as address
use Rattle.bcj_tables_rules.specs.declared.records.ClassRecord.{ClassRecord}
use Rattle.bcj_hier_rules.specs.Rows.{some}
use Rattle.bcj_cli_showing.specs.Lines.{tree_line, field_line, method_line, range_line, pair_line, ctable_line, otable_line, atable_line, itable_line, word_line, hexadecimal}
use Rattle.bcj_cli_showing.specs.Text.{tree_lines, numbered, table_lines, record_lines, word_lines, show_text}

-- circles and what stands on a missing type are no classes of the tree
pub tree_row : tree_lines some ≡ codes "tree Object\ntree   A\ntree     B\n"
unfolding tree_lines tree_line
tree_row = refl

pub field_row : field_line (record { name = codes "x"; ty = codes "[LA;"; is_static = true; is_final = false; is_private = false; is_constant = false; value = 0 }) ≡ codes "field x [LA;\n"
unfolding field_line
field_row = refl

pub method_row : method_line (record { name = codes "run"; desc = codes "(I)V"; kind = kind.Static; is_private = false; entry = 104; words = 26; frame = 3 }) ≡ codes "method run (I)V 104 26 3\n"
unfolding method_line digits
method_row = refl

pub any_row : range_line (record { method = 0; start = 56; end = 72; target = 88; class = None }) ≡ codes "range 0 56 72 88 any\n"
unfolding range_line digits
any_row = refl

pub range_row : range_line (record { method = 3; start = 1056; end = 1440; target = 1444; class = Some (codes "E") }) ≡ codes "range 3 1056 1440 1444 E\n"
unfolding range_line digits
range_row = refl

pub pair_row : pair_line (record { from = codes "[LA;"; to = codes "LB;" }) ≡ codes "pair [LA; LB;\n"
unfolding pair_line
pair_row = refl

pub type_row : ctable_line 0 (record { is_new = false; ty = codes "[I" }) ≡ codes "ctable 0 type [I\n"
unfolding ctable_line digits
type_row = refl

pub new_row : ctable_line 11 (record { is_new = true; ty = codes "LA;" }) ≡ codes "ctable 11 new LA;\n"
unfolding ctable_line digits
new_row = refl

pub otable_row : otable_line 2 (record { is_method = true; class = codes "A"; name = codes "f"; desc = codes "()I" }) ≡ codes "otable 2 A.f:()I\n"
unfolding otable_line digits
otable_row = refl

pub atable_row : atable_line 0 (record { kind = address.Special; class = codes "A"; name = codes "<init>"; desc = codes "()V" }) ≡ codes "atable 0 A.<init>:()V\n"
unfolding atable_line digits
atable_row = refl

pub itable_row : numbered itable_line 0 (record { class = codes "I"; name = codes "m"; desc = codes "()V" } ∷ record { class = codes "I"; name = codes "n"; desc = codes "(Z)V" } ∷ [])
    ≡ codes "itable 0 I.m:()V\nitable 1 I.n:(Z)V\n"
unfolding numbered itable_line digits
itable_row = refl

-- `jalr x0, 0(x1)` and `addi x17, x0, 3`
pub words_row : word_lines 0 (103 ∷ 128 ∷ 0 ∷ 0 ∷ 147 ∷ 8 ∷ 48 ∷ 0 ∷ []) ≡ codes "0 00008067\n4 00300893\n"
unfolding word_lines word_line hexadecimal digits
words_row = refl

abbrev pub object_head : ClassHead
object_head = record { name = codes "Object"; interface = false; is_abstract = false; superclass = None; interfaces = [] }

abbrev pub one_head : ClassHead
one_head = record { name = codes "N"; interface = false; is_abstract = false; superclass = Some (codes "Object"); interfaces = [] }

-- class N with its initialiser alone
abbrev pub one : ClassRecord
one = record {
  head = one_head;
  fields = [];
  methods = record { name = codes "<clinit>"; desc = codes "()V"; kind = kind.Static; is_private = false; entry = 0; words = 1; frame = 2 } ∷ [];
  ranges = [];
  pairs = [];
  ctable = [];
  otable = [];
  atable = [];
  itable = [];
  table = 0;
}

pub text_row : show_text (object_head ∷ one_head ∷ []) (one ∷ []) (103 ∷ 128 ∷ 0 ∷ 0 ∷ []) ≡ codes "tree Object\ntree   N\nclass N\nmethod <clinit> ()V 0 1 2\n0 00008067\n"
unfolding show_text tree_lines tree_line record_lines Rattle.bcj_cli_showing.specs.Lines.class_line method_line table_lines numbered word_lines word_line hexadecimal digits
text_row = refl
