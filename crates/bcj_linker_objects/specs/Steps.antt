-- What is gathered so far, and what one more object adds.
use Rattle.std.specs.Prelude.{◌≡◌, ◌<◌, ◌≤◌, ℕ, List, [], ◌∷◌, ◌++◌, length, Option, None, Some, is_some, ⊤, if◌then◌else◌}
use Rattle.std.specs.List.{sum_by}
use Rattle.std.specs.Option.{option_or}
use Rattle.std.specs.HashMap.{get_by_text}
use Rattle.std.specs.Str.{bytes_eq}
use Rattle.bcj_tables_rules.specs.declared.records.ClassRecord.{ClassRecord}
use Rattle.bcj_hier_rules.specs.Shapes.{Named}
use Rattle.bcj_hier_rules.specs.Heads.{AreDistinct, max_types}
use Rattle.bcj_layout_rules.specs.Rows.{Classes}
use Rattle.bcj_linker_objects.specs.declared.gathering.Gathering.{Gathering}
use Rattle.bcj_linker_objects.specs.declared.gathered.Gathered.{Gathered}
use Rattle.bcj_linker_objects.specs.declared.stop.LinkTotal.{LinkTotal}
use Rattle.bcj_linker_objects.specs.declared.stop.LinkTotal.TheVariants.{Types, Image}
use Rattle.bcj_linker_objects.specs.declared.stop.LinkStop.{LinkStop}
use Rattle.bcj_linker_objects.specs.declared.stop.LinkStop.TheVariants.{Malformed, Duplicate, TooLarge, NoMemory}
use Rattle.bcj_linker_objects.specs.declared.reading.ReadObject.{ReadObject}
use Rattle.bcj_linker_objects.specs.Objects.{AreLinked, IsBadObject}
use Rattle.bcj_linker_objects.specs.Names.{heads_in, has_name, classes_each, owner}
use Rattle.bcj_linker_objects.specs.Gathering.{linked_in}

-- ---- names

-- the owner of a name among the classes of one object
abbrev pub owner_among : ℕ → Classes → Named → Option ℕ
owner_among object cs q = if has_name q cs then Some object else None

abbrev pub owner_in : Gathering → Named → Option ℕ
owner_in g q = get_by_text g.owners q

-- just the names of the classes have owners, and they differ
pub record AreNamed (g : Gathering) : Type 0 where
  pub known : (q : Named) → is_some (owner_in g q) ≡ has_name q g.classes
  pub distinct : AreDistinct (heads_in g.classes)

-- the name of a class of an object is noted, and it is new
pub record AddsName (old new : Gathering) (class : ClassRecord) (object : ℕ) : Type 0 where
  pub classes : new.classes ≡ old.classes
  pub objects : new.objects ≡ old.objects
  pub free : owner_in old class.head.name ≡ None
  pub owners : (q : Named) → owner_in new q ≡ option_or (owner_in old q) (if bytes_eq class.head.name q then Some object else None)

-- the name of a class of an object has an owner
pub record HasName (old : Gathering) (class : ClassRecord) (object : ℕ) (name : Named) (first second : ℕ) : Type 0 where
  pub named : class.head.name ≡ name
  pub earlier : owner_in old name ≡ Some first
  pub number : second ≡ object

abbrev pub IsTaken : Gathering → ClassRecord → ℕ → LinkStop → Type 0
IsTaken old class object (Malformed number at) = ⊥
IsTaken old class object (Duplicate name first second) = HasName old class object name first second
IsTaken old class object (TooLarge what) = ⊥
IsTaken old class object NoMemory = ⊤

-- the names of these classes of an object are noted besides, and they are new
pub record AddsNames (old new : Gathering) (cs : Classes) (object : ℕ) : Type 0 where
  pub classes : new.classes ≡ old.classes
  pub objects : new.objects ≡ old.objects
  pub owners : (q : Named) → owner_in new q ≡ option_or (owner_in old q) (owner_among object cs q)
  pub distinct : AreNamed old → AreDistinct (heads_in (old.classes ++ cs))

-- one of these classes of an object has a name that an earlier one has
pub record HasSecond (old : Gathering) (cs : Classes) (object : ℕ) (name : Named) (first second : ℕ) : Type 0 where
  pub front : Classes
  pub class : ClassRecord
  pub behind : Classes
  pub split : cs ≡ front ++ class ∷ behind
  pub named : class.head.name ≡ name
  pub distinct : AreNamed old → AreDistinct (heads_in (old.classes ++ front))
  pub earlier : option_or (owner_in old name) (owner_among object front name) ≡ Some first
  pub number : second ≡ object

abbrev pub IsNameStop : Gathering → Classes → ℕ → LinkStop → Type 0
IsNameStop old cs object (Malformed number at) = ⊥
IsNameStop old cs object (Duplicate name first second) = HasSecond old cs object name first second
IsNameStop old cs object (TooLarge what) = ⊥
IsNameStop old cs object NoMemory = ⊤

-- ---- objects

-- exactly these bytes are gathered, and no name stands twice
pub record Gathers (all : List (List ℕ)) (g : Gathering) : Type 0 where
  pub linked : AreLinked all (linked_in g.objects g.classes)
  pub counted : sum_by (λ o. o.classes) g.objects ≡ length g.classes
  pub distinct : AreDistinct (heads_in g.classes)
  pub owners : (q : Named) → owner_in g q ≡ owner (classes_each (linked_in g.objects g.classes)) q

-- an object is taken in behind the others
pub record Puts (old : Gathering) (read : ReadObject) (new : Gathering) : Type 0 where
  pub classes : new.classes ≡ old.classes ++ read.classes
  pub objects : new.objects ≡ old.objects ++ record { object = read.object; classes = length read.classes } ∷ []
  pub owners : (q : Named) → owner_in new q ≡ owner_in old q

abbrev pub IsReadStop : List ℕ → ℕ → LinkStop → Type 0
IsReadStop bytes number (Malformed object at) = (object ≡ number) × IsBadObject bytes at
IsReadStop bytes number (Duplicate name first second) = ⊥
IsReadStop bytes number (TooLarge what) = ⊥
IsReadStop bytes number NoMemory = ⊤

-- ---- the hierarchy

pub record IsFinished (old : Gathering) (new : Gathered) : Type 0 where
  pub classes : new.records.classes ≡ old.classes
  pub version : new.records.version ≡ 2
  pub objects : new.objects ≡ old.objects
  pub hierarchy : new.hier ≡ heads_in old.classes
  pub few : length old.classes ≤ max_types

abbrev pub IsTooMany : Gathering → LinkTotal → Type 0
IsTooMany old Types = max_types < length old.classes
IsTooMany old Image = ⊥

abbrev pub IsFinishStop : Gathering → LinkStop → Type 0
IsFinishStop old (Malformed object at) = ⊥
IsFinishStop old (Duplicate name first second) = ⊥
IsFinishStop old (TooLarge what) = IsTooMany old what
IsFinishStop old NoMemory = ⊤
