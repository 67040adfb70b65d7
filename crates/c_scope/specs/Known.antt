-- What is known of names behind so many nodes: which are declared, what their uses mean, and what is at fault (C11
-- 6.2.1 to 6.2.3).
use Rattle.std.specs.Prelude.{ℕ, ◌+◌, ◌==◌, Bool, true, false, ◌&&◌, ◌||◌, not, nat_le, Option, Some, None, List}
use Rattle.std.specs.Prelude.{[], ◌∷◌, ◌++◌, filter, if◌then◌else◌}
use Rattle.std.specs.List.{list_any}
use Rattle.c_grammar.specs.Terminals.{contains}
use Rattle.c_mentions.specs.declared.roles.TagUse.{TagUse}
use Rattle.c_mentions.specs.declared.roles.TagUse.TheVariants.{Declares, Refers, Uses}
use Rattle.c_mentions.specs.declared.declarators.Derivation.{Derivation}
use Rattle.c_mentions.specs.declared.declarators.Derivation.TheVariants.{Bare, Function, Other}
use Rattle.c_mentions.specs.declared.mentions.Linkage.{Linkage}
use Rattle.c_mentions.specs.declared.mentions.Linkage.TheVariants as linkage
use Rattle.c_mentions.specs.declared.mentions.Mention.{Mention}
use Rattle.c_mentions.specs.declared.mentions.Mention.TheVariants.{Nothing, Use, Tag, Label, Goto}
use Rattle.c_mentions.specs.declared.mentions.Mention.TheVariants as mention
-- a declaration: the node of its name, its symbol, its scope, whether it has linkage or is a typedef name, and
-- whether it declares a function or a function's type
use Rattle.c_scope.specs.declared.kinds.Declared.{Declared}
use Rattle.c_scope.specs.declared.kinds.Kind.{Kind}
use Rattle.c_scope.specs.declared.kinds.Kind.TheVariants.{Linked, Typedef, Plain}
use Rattle.c_scope.specs.declared.kinds.NameFault.{NameFault}
use Rattle.c_scope.specs.declared.kinds.NameFault.TheVariants.{Undeclared, Redeclared, OutOfMemory}

-- what a node does to names, with the scopes around it and the body of its function
pub record Happening : Type 0 where
  pub mention : Mention
  pub scopes : List ℕ
  pub body : ℕ

-- Behind so many nodes: the declarations of ordinary names and of tags, in order; the uses that mean a function or
-- a function's type; each use of a name or tag with the declaration that it means, and each goto with its label;
-- and the nodes that are undeclared or redeclared.
pub record Known : Type 0 where
  pub names : List Declared
  pub tags : List Declared
  pub functions : List ℕ
  pub uses : List (ℕ × ℕ)
  pub labels : List (ℕ × ℕ)
  pub faults : List NameFault

abbrev pub nothing_known : Known
nothing_known = record { names = []; tags = []; functions = []; uses = []; labels = []; faults = [] }

abbrev pub is_at : ℕ → ℕ → Declared → Bool
is_at scope symbol d = d.scope == scope && d.symbol == symbol

-- the declarations of a symbol in a scope
abbrev pub those_at : ℕ → ℕ → List Declared → List Declared
those_at scope symbol ds = filter (is_at scope symbol) ds

abbrev pub last_of : Option Declared → List Declared → Option Declared
last_of before [] = before
last_of before (d ∷ ds) = last_of (Some d) ds

-- the latest declaration of a symbol in a scope
abbrev pub latest : ℕ → ℕ → List Declared → Option Declared
latest scope symbol ds = last_of None (those_at scope symbol ds)

abbrev pub or_else : Option Declared → Option Declared → Option Declared
or_else None other = other
or_else (Some d) other = Some d

-- the innermost declaration: that of the first of the scopes, from the innermost one outwards, that has one (C11
-- 6.2.1p4)
abbrev pub innermost : List ℕ → ℕ → List Declared → Option Declared
innermost [] symbol ds = None
innermost (scope ∷ scopes) symbol ds = or_else (latest scope symbol ds) (innermost scopes symbol ds)

-- two declarations of one name in one scope: both with linkage, or both as a typedef name (C11 6.7p3)
abbrev pub agrees : Kind → Kind → Bool
agrees Linked Linked = true
agrees Typedef Typedef = true
agrees _ _ = false

abbrev pub clashes : Kind → Declared → Bool
clashes kind d = not (agrees d.kind kind)

-- a declarator declares a function by a parameter list next to its name, or without a derivation by its type
abbrev pub is_function : List ℕ → Derivation → Option ℕ → Bool
is_function functions Function type_name = true
is_function functions Other type_name = false
is_function functions Bare None = false
is_function functions Bare (Some type_name) = contains functions type_name

-- linkage (C11 6.2.2): at file scope, with `extern`, and of a function
abbrev pub kind_of : Linkage → Bool → Bool → Kind
kind_of linkage.Never at_file function = Plain
kind_of linkage.Typedef at_file function = Typedef
kind_of linkage.External at_file function = Linked
kind_of linkage.Object at_file function = if at_file || function then Linked else Plain

abbrev pub first_scope : ℕ → List ℕ → ℕ
first_scope file [] = file
first_scope file (scope ∷ scopes) = scope

-- the first label of a symbol in a function's body, by its node, where the happenings are those of the nodes from a
-- number on
abbrev pub is_label : ℕ → ℕ → Happening → Mention → Bool
is_label body symbol h (Label other) = h.body == body && other == symbol
is_label body symbol h _ = false

abbrev pub first_label : ℕ → List Happening → ℕ → ℕ → Option ℕ
first_label n [] body symbol = None
first_label n (h ∷ hs) body symbol =
    if is_label body symbol h h.mention then Some n else first_label (n + 1) hs body symbol

abbrev pub is_first : ℕ → Option ℕ → Bool
is_first n None = false
is_first n (Some first) = first == n

abbrev pub tag_declared : ℕ → ℕ → ℕ → Declared
tag_declared n symbol scope = record { node = n; symbol = symbol; scope = scope; kind = Plain; is_function = false }

abbrev pub with_fault : NameFault → Known → Known
with_fault fault k = record k { faults = k.faults ++ fault ∷ [] }

abbrev pub with_use : ℕ → ℕ → Known → Known
with_use n declaration k = record k { uses = k.uses ++ (n, declaration) ∷ [] }

abbrev pub with_tag : Declared → Known → Known
with_tag tag k = record k { tags = k.tags ++ tag ∷ [] }

-- a use of an ordinary name, of a tag that may be declared by it, and of one that must be
abbrev pub after_use : ℕ → Bool → Option Declared → Known → Known
after_use n exempt None k = if exempt then k else with_fault (Undeclared n) k
after_use n exempt (Some d) k =
    record k {
      uses = k.uses ++ (n, d.node) ∷ [];
      functions = if d.is_function then k.functions ++ n
          ∷ [] else k.functions;
    }

abbrev pub after_tag_use : ℕ → Option Declared → Known → Known
after_tag_use n None k = with_fault (Undeclared n) k
after_tag_use n (Some d) k = with_use n d.node k

abbrev pub after_tag_reference : ℕ → Declared → Option Declared → Known → Known
after_tag_reference n tag None k = with_tag tag k
after_tag_reference n tag (Some d) k = with_use n d.node k

abbrev pub after_tag : ℕ → ℕ → ℕ → List ℕ → TagUse → Known → Known
after_tag file n symbol scopes Declares k = with_tag (tag_declared n symbol (first_scope file scopes)) k
after_tag file n symbol scopes Refers k =
    after_tag_reference n (tag_declared n symbol (first_scope file scopes)) (innermost scopes symbol k.tags) k
after_tag file n symbol scopes Uses k = after_tag_use n (innermost scopes symbol k.tags) k

-- a label, and a goto
abbrev pub after_label : ℕ → Option ℕ → Known → Known
after_label n first k = if is_first n first then k else with_fault (Redeclared n) k

abbrev pub after_goto : ℕ → Option ℕ → Known → Known
after_goto n None k = with_fault (Undeclared n) k
after_goto n (Some first) k = record k { labels = k.labels ++ (n, first) ∷ [] }

-- a declaration of an ordinary name
abbrev pub after_declaration : Declared → Known → Known
after_declaration d k = record k {
  names = k.names ++ d ∷ [];
  faults =
      if list_any (clashes d.kind) (those_at d.scope d.symbol k.names) then k.faults ++ Redeclared d.node
      ∷ [] else k.faults;
}

abbrev pub declared_by : ℕ → ℕ → ℕ → Linkage → Derivation → Option ℕ → ℕ → Known → Declared
declared_by file leaf symbol linkage derivation type_name scope k =
    let function = is_function k.functions derivation type_name in
    record {
      node = leaf;
      symbol = symbol;
      scope = scope;
      kind = kind_of linkage (scope == file) function;
      is_function = function;
    }

abbrev pub after_name : ℕ → ℕ → ℕ → Linkage → Derivation → Option ℕ → List ℕ → Known → Known
after_name file leaf symbol linkage derivation type_name scopes k =
    after_declaration (declared_by file leaf symbol linkage derivation type_name (first_scope file scopes) k) k

-- what is known behind one node more, by the first label of each symbol in each body
abbrev pub after : ℕ → (ℕ → ℕ → Option ℕ) → ℕ → List ℕ → ℕ → Mention → Known → Known
after file labels n scopes body Nothing k = k
after file labels n scopes body (Use symbol exempt) k = after_use n exempt (innermost scopes symbol k.names) k
after file labels n scopes body (Tag symbol how) k = after_tag file n symbol scopes how k
after file labels n scopes body (Label symbol) k = after_label n (labels body symbol) k
after file labels n scopes body (Goto symbol) k = after_goto n (labels body symbol) k
after file labels n scopes body (mention.Declares leaf symbol linkage derivation type_name) k =
    after_name file leaf symbol linkage derivation type_name scopes k

-- what is known behind the nodes from a number on
abbrev pub known : ℕ → (ℕ → ℕ → Option ℕ) → ℕ → Known → List Happening → Known
known file labels n k [] = k
known file labels n k (h ∷ hs) = known file labels (n + 1) (after file labels n h.scopes h.body h.mention k) hs

abbrev pub fault_node : NameFault → ℕ
fault_node (Undeclared n) = n
fault_node (Redeclared n) = n
fault_node OutOfMemory = 0

-- the fault of the smallest node
abbrev pub earlier : Option NameFault → NameFault → Option NameFault
earlier None fault = Some fault
earlier (Some first) fault = if nat_le (fault_node first) (fault_node fault) then Some first else Some fault

abbrev pub first_fault : Option NameFault → List NameFault → Option NameFault
first_fault first [] = first
first_fault first (fault ∷ faults) = first_fault (earlier first fault) faults
