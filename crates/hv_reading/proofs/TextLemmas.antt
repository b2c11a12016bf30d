-- From what expressions spell, and their faults, to those of a text.
use Rattle.std.proofs.Common.{◌≡◌, ℕ, List, Result, Ok, Err}
use Rattle.std.specs.Prelude.{IfOk, IfErr}
use Rattle.hv_text.specs.Trees.{Trees}
use Rattle.hv_text.specs.Sexps.{AreExpressions}
use Rattle.hv_text.specs.declared.span.Span.{Span}
use Rattle.hv_text.specs.declared.fault.TextKind.TheVariants as texts
use Rattle.hv_reading.specs.declared.fault.SyntaxKind.{SyntaxKind}
use Rattle.hv_reading.specs.declared.fault.SyntaxKind.TheVariants as kinds
use Rattle.hv_reading.specs.declared.fault.SyntaxFault.{SyntaxFault}
use Rattle.hv_reading.specs.inside.Faults.{Answers, OfExpressions}
use Rattle.hv_syntax.specs.Values.{Domain, Problem}
use Rattle.hv_reading.specs.inside.Domains.{domain_of}
use Rattle.hv_reading.specs.inside.Problems.{problem_of}
use Rattle.hv_reading.specs.Tables.{IsDomain, IsProblem}
use Rattle.hv_reading.specs.FirstFaults.{IsFaultyDomain, IsFaultyProblem}
use Rattle.hv_reading.specs.Texts.{IsSpelledBy, IsFaultBy}
use Rattle.hv_reading.proofs.TextSpellings.{domain_table, problem_table}
use Rattle.hv_reading.proofs.FaultSpellings.{domain_fault_table, problem_fault_table}

module _ {V : Type 0} (reading : Trees → Result V (SyntaxKind × Span)) (Spells : Trees → V → Type 0) (Faulty : Trees → SyntaxKind → Span → Type 0)
    (spelled : (ts : Trees) (v : V) → reading ts ≡ Ok v → Spells ts v) (faulty : (ts : Trees) (kind : SyntaxKind) (s : Span) → reading ts ≡ Err (kind, s) → Faulty ts kind s)
    (text : List ℕ) (ts : Trees) (are : AreExpressions text ts) where
  of_text : (kind : SyntaxKind) (s : Span) → OfExpressions kind s (reading ts ≡ Err (kind, s)) → IsFaultBy Faulty text kind s
  of_text (kinds.Text texts.Memory) s h = (are.size, h)
  of_text (kinds.Text texts.BadByte) s h = absurd h
  of_text (kinds.Text texts.Unclosed) s h = absurd h
  of_text (kinds.Text texts.Unopened) s h = absurd h
  of_text (kinds.Text texts.TooDeep) s h = absurd h
  of_text (kinds.Text texts.TooLong) s h = absurd h
  of_text kinds.NotDefine s h = (ts, are, faulty ts kinds.NotDefine s h)
  of_text kinds.UnknownSection s h = (ts, are, faulty ts kinds.UnknownSection s h)
  of_text kinds.RepeatedSection s h = (ts, are, faulty ts kinds.RepeatedSection s h)
  of_text kinds.MissingSection s h = (ts, are, faulty ts kinds.MissingSection s h)
  of_text kinds.BadShape s h = (ts, are, faulty ts kinds.BadShape s h)
  of_text kinds.Unsupported s h = (ts, are, faulty ts kinds.Unsupported s h)

  value_of_text : {X : Type 0} (view : X → V) (r : Result X SyntaxFault) → Answers view r (reading ts) → IfOk r (λ x. IsSpelledBy Spells text (view x))
  value_of_text view (Ok x) h = (ts, are, spelled ts (view x) h)
  value_of_text view (Err f) h = tt

  fault_of_text : {X : Type 0} (view : X → V) (r : Result X SyntaxFault) → Answers view r (reading ts) → IfErr r (λ f. IsFaultBy Faulty text f.kind f.span)
  fault_of_text view (Ok x) h = tt
  fault_of_text view (Err f) h = of_text f.kind f.span h

module _ (text : List ℕ) (ts : Trees) (are : AreExpressions text ts) {X : Type 0} where
  pub domain_of_text : (view : X → Domain) (r : Result X SyntaxFault) → Answers view r (domain_of ts) → IfOk r (λ x. IsSpelledBy IsDomain text (view x))
  domain_of_text = value_of_text domain_of IsDomain IsFaultyDomain (λ us d. (domain_table us d).1) (λ us kind s. (domain_fault_table us kind s).1) text ts are

  pub fault_of_domain : (view : X → Domain) (r : Result X SyntaxFault) → Answers view r (domain_of ts) → IfErr r (λ f. IsFaultBy IsFaultyDomain text f.kind f.span)
  fault_of_domain = fault_of_text domain_of IsDomain IsFaultyDomain (λ us d. (domain_table us d).1) (λ us kind s. (domain_fault_table us kind s).1) text ts are

  pub problem_of_text : (view : X → Problem) (r : Result X SyntaxFault) → Answers view r (problem_of ts) → IfOk r (λ x. IsSpelledBy IsProblem text (view x))
  problem_of_text = value_of_text problem_of IsProblem IsFaultyProblem (λ us p. (problem_table us p).1) (λ us kind s. (problem_fault_table us kind s).1) text ts are

  pub fault_of_problem : (view : X → Problem) (r : Result X SyntaxFault) → Answers view r (problem_of ts) → IfErr r (λ f. IsFaultBy IsFaultyProblem text f.kind f.span)
  fault_of_problem = fault_of_text problem_of IsProblem IsFaultyProblem (λ us p. (problem_table us p).1) (λ us kind s. (problem_fault_table us kind s).1) text ts are
