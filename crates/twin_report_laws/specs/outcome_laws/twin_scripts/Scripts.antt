-- Scripts of questions on programs that are one, but for numbers.
use Rattle.std.specs.Prelude.{◌≡◌, ◌⊎◌, ℕ, List}
use Rattle.c_types.specs.Made.{IsMade, AreNamed}
use Rattle.core_tree.specs.declared.node.Program.{Program}
use Rattle.sol_model.specs.declared.system.System.{System}
use Rattle.obj_space.specs.Space.{locations_in}
use Rattle.obj_space.specs.View.{view_of}
use Rattle.normal_form.specs.SystemOf.{SystemOf}
use Rattle.alias_query.specs.declared.answers.Question.{Question}
use Rattle.alias_query.specs.Script.{IsBad}
use Rattle.alias_query.specs.Asked.{Setting, made_setting, IsNamed, IsSetNamed, IsFunctionNamed, IsCallAt, AreAsked}
use Rattle.alias_query.specs.Asked.{IsFirst, IsNameless}
use Rattle.twin_report_laws.specs.outcome_laws.twin_programs.One.{AreOne}

-- what a word names in one setting, a location, one whose set has a line, a function or a call, it names in the
-- other one
pub record SameWords (one other : Setting) : Type 0 where
  pub locations : (word : List ℕ) (l : ℕ) → IsNamed one word l → (k : ℕ) × IsNamed other word k
  pub sets : (word : List ℕ) (l : ℕ) → IsSetNamed one word l → (k : ℕ) × IsSetNamed other word k
  pub functions : (word : List ℕ) (f : ℕ) → IsFunctionNamed one word f → (g : ℕ) × IsFunctionNamed other word g
  pub calls : (word : List ℕ) (c : ℕ) → IsCallAt one.system.calls one.names word c
      → (d : ℕ) × IsCallAt other.system.calls other.names word d

-- the line of this number, from 1, is the first one that isn't in the grammar or names nothing of the right sort
abbrev pub IsRefusedAt : Setting → List (List ℕ) → ℕ → Type 0
IsRefusedAt setting lines number =
    IsFirst setting lines number IsBad ⊎ IsFirst setting lines number (IsNameless setting)

-- a script that is asked in one setting is asked in the other one and refused in neither, and refused in both at
-- one line
pub record SameScripts (one other : Setting) : Type 0 where
  pub taken : (lines : List (List ℕ)) (questions : List Question) → AreAsked one lines questions
      → (others : List Question) × AreAsked other lines others
  pub refused : (lines : List (List ℕ)) (m n : ℕ) → IsRefusedAt one lines m → IsRefusedAt other lines n → m ≡ n
  pub apart : (lines : List (List ℕ)) (questions : List Question) (n : ℕ)
      → AreAsked one lines questions
      → IsRefusedAt other lines n
      → ⊥

-- settings in which the same words name something take the same scripts
abbrev pub OneReading : Type 0
OneReading = (one other : Setting) → SameWords one other → SameWords other one → SameScripts one other

-- what scripts on a program are read with
abbrev pub read_with : Program → System → Setting
read_with p system = made_setting (locations_in p) system p.names.items

-- two programs that are one, but for numbers, take the same scripts
abbrev pub TwinScripts : Type 0
TwinScripts =
    (p q : Program) (one other : System)
    → AreOne p q
    → IsMade p.types
    → AreNamed p.types
    → IsMade q.types
    → AreNamed q.types
    → SystemOf p (view_of (locations_in p)) one → SystemOf q (view_of (locations_in q)) other
    → SameWords (read_with p one) (read_with q other) × SameScripts (read_with p one) (read_with q other)
