use Rattle.std.proofs.Common.{[], ◌∷◌}
use Rattle.sequence.specs.Token.{num, str}
use Rattle.sequence.proofs.Grammars.{stop_first, stop_later}
use Rattle.sequence.proofs.Readers.{stopped}
use Rattle.request.specs.Grammar.{requests, a_request, a_number, a_string}
use Rattle.request.specs.Reading.{RequestFrom}
use Rattle.request.proofs.Requests.{completable}
use Rattle.request.proofs.Places.{check_there, find_item_stops, find_there, fit_there}
use Rattle.request.proofs.reading.next_request.Goals as goal

pub returns-in_err-read_kind : goal.returns-in_err-read_kind
returns-in_err-read_kind c = stopped RequestFrom _ _ _ _ c.from_residual.ensures.1 (stop_first requests completable a_request [] _ _ _ c.in_err-read_kind.ensures)

pub returns-in_err-string-in-Check : goal.returns-in_err-string-in-Check
returns-in_err-string-in-Check c =
    let (b, k) = rw c.in-Check.is at c.in_ok-read_kind.ensures in
    stopped RequestFrom _ _ _ _ c.from_residual-in_err-string-in-Check.ensures.1 (stop_later requests a_request [] (num 0) _ _ _ _ k.0 (stop_first requests completable a_string [] _ _ _ (rw b at c.in_err-string-in-Check.ensures.told)))

pub returns-in_err-path-in-Find : goal.returns-in_err-path-in-Find
returns-in_err-path-in-Find c =
    let (b, k) = rw c.in-Find.is at c.in_ok-read_kind.ensures in
    stopped RequestFrom _ _ _ _ c.from_residual-in_err-path-in-Find.ensures.1 (stop_later requests a_request [] (num 1) _ _ _ _ k.0 (rw b at (c.in_err-path-in-Find.ensures (a_string ∷ []))))

pub returns-in_err-item-in-Find : goal.returns-in_err-item-in-Find
returns-in_err-item-in-Find c =
    let (b, k) = rw c.in-Find.is at c.in_ok-read_kind.ensures in
    let (d, p) = rw b at c.in_ok-path-in-Find.ensures in
    stopped RequestFrom _ _ _ _ c.from_residual-in_err-item-in-Find.ensures.1 (stop_later requests a_request [] (num 1) _ _ _ _ k.0 (find_item_stops _ _ _ c.in_ok-path-in-Find.path _ p (stop_first requests completable a_string [] _ _ _ (rw d at c.in_err-item-in-Find.ensures.told))))

pub returns-in_err-rules-in-Fit : goal.returns-in_err-rules-in-Fit
returns-in_err-rules-in-Fit c =
    let (b, k) = rw c.in-Fit.is at c.in_ok-read_kind.ensures in
    stopped RequestFrom _ _ _ _ c.from_residual-in_err-rules-in-Fit.ensures.1 (stop_later requests a_request [] (num 2) _ _ _ _ k.0 (stop_first requests completable a_string (a_number ∷ a_string ∷ []) _ _ _ (rw b at c.in_err-rules-in-Fit.ensures.told)))

pub returns-in_err-which-in-Fit : goal.returns-in_err-which-in-Fit
returns-in_err-which-in-Fit c =
    let (b, k) = rw c.in-Fit.is at c.in_ok-read_kind.ensures in
    let (d, r) = rw b at c.in_ok-rules-in-Fit.ensures.told in
    stopped RequestFrom _ _ _ _ c.from_residual-in_err-which-in-Fit.ensures.1 (stop_later requests a_request [] (num 2) _ _ _ _ k.0 (stop_later requests a_string (a_number ∷ a_string ∷ []) (str _) _ _ _ _ r.0 (stop_first requests completable a_number (a_string ∷ []) _ _ _ (rw d at c.in_err-which-in-Fit.ensures.told))))

pub returns-in_err-item-in-Fit : goal.returns-in_err-item-in-Fit
returns-in_err-item-in-Fit c =
    let (b, k) = rw c.in-Fit.is at c.in_ok-read_kind.ensures in
    let (d, r) = rw b at c.in_ok-rules-in-Fit.ensures.told in
    let (e, n) = rw d at c.in_ok-which-in-Fit.ensures.told in
    stopped RequestFrom _ _ _ _ c.from_residual-in_err-item-in-Fit.ensures.1 (stop_later requests a_request [] (num 2) _ _ _ _ k.0 (stop_later requests a_string (a_number ∷ a_string ∷ []) (str _) _ _ _ _ r.0 (stop_later requests a_number (a_string ∷ []) (num _) _ _ _ _ n.0 (stop_first requests completable a_string [] _ _ _ (rw e at c.in_err-item-in-Fit.ensures.told)))))

pub returns-in_ok-string-in-Check : goal.returns-in_ok-string-in-Check
returns-in_ok-string-in-Check c =
    let (b, k) = rw c.in-Check.is at c.in_ok-read_kind.ensures in
    let (d, t) = rw b at c.in_ok-string-in-Check.ensures.told in
    (d, check_there _ _ _ _ c.in_ok-string-in-Check.field-0 k t)

pub returns-in_ok-item-in-Find : goal.returns-in_ok-item-in-Find
returns-in_ok-item-in-Find c =
    let (b, k) = rw c.in-Find.is at c.in_ok-read_kind.ensures in
    let (d, p) = rw b at c.in_ok-path-in-Find.ensures in
    let (e, t) = rw d at c.in_ok-item-in-Find.ensures.told in
    (e, find_there _ _ _ _ _ c.in_ok-path-in-Find.path c.in_ok-item-in-Find.item k p t)

pub returns-in_ok-item-in-Fit : goal.returns-in_ok-item-in-Fit
returns-in_ok-item-in-Fit c =
    let (b, k) = rw c.in-Fit.is at c.in_ok-read_kind.ensures in
    let (d, r) = rw b at c.in_ok-rules-in-Fit.ensures.told in
    let (e, n) = rw d at c.in_ok-which-in-Fit.ensures.told in
    let (f, t) = rw e at c.in_ok-item-in-Fit.ensures.told in
    (f, fit_there _ _ _ _ _ _ _ c.in_ok-rules-in-Fit.rules c.in_ok-item-in-Fit.item k r n t)
