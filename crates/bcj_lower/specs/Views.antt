-- What the code of a class stands for.
use Rattle.std.specs.Prelude.{map}
use Rattle.std.specs.Option.{option_copied}
use Rattle.bcj_symbolic_measure.specs.function.Noted.{noted_in}
use Rattle.bcj_lower_rules.specs.Classes.{PlainRelocation, PlainMethodCode, PlainRange, PlainCode}
use Rattle.bcj_lower.specs.declared.code.CodeRelocation.{CodeRelocation}
use Rattle.bcj_lower.specs.declared.code.MethodCode.{MethodCode}
use Rattle.bcj_lower.specs.declared.code.CodeRange.{CodeRange}
use Rattle.bcj_lower.specs.declared.code.ClassCode.{ClassCode}

abbrev pub relocation_in : CodeRelocation → PlainRelocation
relocation_in r = record { offset = r.offset; half = r.half; addend = r.addend }

abbrev pub method_in : MethodCode → PlainMethodCode
method_in m = record { entry = m.entry; words = m.words; frame = m.frame }

abbrev pub range_in : CodeRange → PlainRange
range_in r = record { method = r.method; start = r.start; end = r.end; target = r.target; class = option_copied r.class }

abbrev pub code_in : ClassCode → PlainCode
code_in c = record {
  words = c.words.items;
  relocations = map relocation_in c.relocs.items;
  methods = map method_in c.methods.items;
  ranges = map range_in c.ranges.items;
  ctable = noted_in c.ctable;
  otable = noted_in c.otable;
  atable = noted_in c.atable;
  itable = noted_in c.itable;
}
