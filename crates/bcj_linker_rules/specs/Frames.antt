-- Which frame takes a throw. The search goes from the frame whose code threw to those that called it, down to the start code's.
use Rattle.std.specs.Prelude.{ℕ, zero, suc, ◌+◌, ◌-◌, ◌*◌, ◌%◌, ◌^◌, nat_le, nat_lt, Bool, true, ◌&&◌, List, length, Option, None, Some, if◌then◌else◌}
use Rattle.std.specs.List.{find}
use Rattle.bcj_elf.specs.Rules.{word_at}
use Rattle.bcj_hier_rules.specs.Shapes.{Named, Mixture}
use Rattle.bcj_hier_rules.specs.Loading.{is_below}
use Rattle.bcj_layout_rules.specs.Places.{word_size}

-- code from `start` up to `end`, and where a throw there goes on, by addresses; no class is any
pub record AddressRange : Type 0 where
  pub start : ℕ
  pub end : ℕ
  pub target : ℕ
  pub class : Option Named

-- a method with the words of its frame, and its ranges in the order of its record
pub record MethodSpan : Type 0 where
  pub first : ℕ
  pub past : ℕ
  pub frame : ℕ
  pub ranges : List AddressRange

-- the start code, and the methods
pub record Spans : Type 0 where
  pub start : ℕ
  pub end : ℕ
  pub methods : List MethodSpan

pub data Unwound : Type 0 where
  -- the handler's address, its frame, and how many frames are given up
  handler : (pc sp depth : ℕ) → Unwound
  -- no range in any frame takes the throw
  top : Unwound
  -- a frame lies nowhere
  damaged : Unwound

abbrev pub is_in : ℕ → ℕ → ℕ → Bool
is_in first past p = nat_le first p && nat_lt p past

abbrev pub method_with : Spans → ℕ → Option MethodSpan
method_with spans p = find (λ m. is_in m.first m.past p) spans.methods

-- the range covers the place, and takes objects of the class
abbrev pub takes_class : Mixture → Named → Option Named → Bool
takes_class m class None = true
takes_class m class (Some c) = is_below m class c

abbrev pub takes : Mixture → Named → ℕ → AddressRange → Bool
takes m class p r = is_in r.start r.end p && takes_class m class r.class

-- the frame that called this one, by the return address that it saved, which lies behind the call
abbrev pub caller_place : List ℕ → ℕ → ℕ
caller_place memory sp = (word_at sp memory + (2 ^ 32 - word_size)) % 2 ^ 32

abbrev pub caller_frame : MethodSpan → ℕ → ℕ
caller_frame m sp = (sp + word_size * m.frame) % 2 ^ 32

-- its saved return address lies in the memory
abbrev pub is_held : List ℕ → ℕ → Bool
is_held memory sp = nat_le (sp + word_size) (length memory)

module _ (m : Mixture) (class : Named) (spans : Spans) (memory : List ℕ) where
  -- the search of n frames, from one with this place and this frame, behind so many that were given up
  abbrev pub unwound_within : ℕ → (p sp depth : ℕ) → Unwound
  unwound_within zero p sp depth = damaged
  unwound_within (suc n) p sp depth =
      if is_in spans.start spans.end p
      then top
      else elim (method_with spans p) [
        | None ↦ damaged
        | Some f ↦
            if is_held memory sp
            then (elim (find (takes m class p) f.ranges) [
              | None ↦ unwound_within n (caller_place memory sp) (caller_frame f sp) (suc depth)
              | Some r ↦ handler r.target sp depth
            ])
            else damaged
      ]

  -- each frame has a word at least and lies in the memory, so a search has fewer frames than the memory has bytes
  abbrev pub unwound : (pc sp : ℕ) → Unwound
  unwound pc sp = unwound_within (suc (length memory)) pc sp 0
