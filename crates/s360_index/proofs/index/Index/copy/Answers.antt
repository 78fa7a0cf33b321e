use Rattle.std.proofs.Common.{◌∙◌, ap}
use Rattle.std.proofs.lemmas.List.Elements.{same_from_all_zip}
use Rattle.s360_index.specs.Histories.{numbers}
use Rattle.s360_index.proofs.HistoryLemmas.{map-alike, numbers-copied}
use Rattle.s360_index.proofs.index.Index.copy.Goals as goal

pub returns : goal.returns
returns c p =
    numbers-copied c.in_ok-psw.psw.items c.self.inside.psw.items c.in_ok-registers.registers c.self.inside.registers c.in_ok-bytes.bytes c.self.inside.bytes
    c.in_ok-others.others.entries c.self.inside.others.entries
    (same_from_all_zip _ _ _ c.in_ok-psw.ensures.cases.0 (λ x y s. s))
    (map-alike (λ v. v.items) _ _ _ (λ v w r. same_from_all_zip _ v.items w.items r.0 (λ x y s. s)) c.in_ok-registers.ensures.cases.whole)
    c.self.invariant c.in_ok-bytes.ensures.whole c.in_ok-bytes.ensures.numbers
    (map-alike (λ e. (e.0, e.1.items)) _ _ _ (λ d e r. rw r.0 (ap (λ ns. (d.0, ns)) (same_from_all_zip _ d.1.items e.1.items r.1.0 (λ x y s. s)))) c.in_ok-others.ensures.cases)
    p
    ∙ ap (λ h. numbers h p) c.self.view_is
