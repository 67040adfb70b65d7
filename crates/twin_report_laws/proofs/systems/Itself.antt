-- A system leads to itself.
use Rattle.std.proofs.Common.{◌≡◌, ◌∙◌, ℕ, List, [], ◌∷◌, map, Contains, Option, Some, refl, sym, ap, subst}
use Rattle.sol_model.specs.declared.system.CallSite.{CallSite}
use Rattle.sol_model.specs.declared.system.Function.{Function}
use Rattle.sol_model.specs.declared.system.Constraint.{Constraint}
use Rattle.sol_model.specs.declared.system.Constraint.TheVariants.{Address, Copy, Load, Store, Field, Contents, Call}
use Rattle.twin_report_laws.specs.systems.Systems.{constraint_moved, same_numbers, SameFunction, SameCall, LeadsToItself}

rows_same : (rows : List ℕ) → rows ≡ map (λ (n : ℕ). n) rows
rows_same [] = refl
rows_same (row ∷ rows) = ap (λ (rest : List ℕ). row ∷ rest) (rows_same rows)

lists_same : (lists : List (List ℕ)) → lists ≡ map (map (λ (n : ℕ). n)) lists
lists_same [] = refl
lists_same (rows ∷ lists) = ap (λ (first : List ℕ). first ∷ lists) (rows_same rows) ∙ ap (λ (rest : List (List ℕ)). map (λ (n : ℕ). n) rows ∷ rest) (lists_same lists)

constraint_same : (c : Constraint) → c ≡ constraint_moved same_numbers c
constraint_same (Address row location) = refl
constraint_same (Copy from to) = refl
constraint_same (Load pointer to ty sub) = refl
constraint_same (Store pointer from ty sub) = refl
constraint_same (Field from to ty member) = refl
constraint_same (Contents to from) = refl
constraint_same (Call call) = refl

function_same : (f : Function) → SameFunction same_numbers f f
function_same f = record {
  location = refl;
  parameters = lists_same f.parameters;
  result = rows_same f.result;
  library = refl;
  effects = refl;
  compares = λ h. h;
  ends = λ h. h;
}

call_same : (c : CallSite) → SameCall same_numbers c c
call_same c = record { callee = refl; arguments = lists_same c.arguments; result = rows_same c.result; fresh = λ number location h. h }

some_one : {X : Type 0} → {x y : X} → ◌≡◌ {A = Option X} (Some x) (Some y) → x ≡ y
some_one h = cc

pub leads_to_itself : LeadsToItself
leads_to_itself S = record {
  constraints = λ c h. subst (Contains S.constraints) (constraint_same c) h;
  functions = λ n f at. (f, at, function_same f);
  calls = λ n c at. (c, at, call_same c);
  agree = λ n k c d f g c_at f_at d_at g_at h.
      ap (λ (x : Function). x.signature) (some_one (sym g_at ∙ f_at)) ∙ (h ∙ ap (λ (x : CallSite). x.signature) (some_one (sym c_at ∙ d_at)));
  subs = λ location ty sub node known h. h;
  fields = λ location ty member node h. h;
  pairs = λ to from a b h. h;
}
