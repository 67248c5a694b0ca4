use Rattle.std.proofs.{Common.{◌≡◌, true, refl, sym, ap, ◌∙◌, subst, inl}, lemmas.Bool.true≢false}
use Rattle.shm_graph.specs.{declared.memo.Memo.Memo, Agents.acts, Runs.MayBegin}
use Rattle.shm_plain.specs.{Pools.memo_of, Tracks.kind_next}
use Rattle.shm_client.specs.Clear.{IsClear}
use Rattle.shm_client.proofs.JoinLatch.{clear_joining}
use Rattle.t_calls.specs.{declared.standing.Standing.{Standing, TheVariants.{New, Works}}, Known.{IsSo, joined_known}}
use Rattle.t_calls.proofs.{Stands.{known_joined, pick_so, stand_placed}, run.join.Goals.{in-New, in_default}}
use Rattle.t_calls.proofs.run.join.Goals as goal

pub returns : goal.returns
returns c =
    let r = c.args.run.now in
    let p = r.pool in
    let q = c.join.new.pool in
    let who = c.in_ok-who.who in
    let new : c.pick.result ≡ New = elim c.match-matches.branch [ in-New w ↦ w.in-New.is | in_default w ↦ absurd (true≢false (sym c.in_ok-check.ensures ∙ w.matches-is)) ] in
    let so : IsSo New who p = subst (λ (s : Standing). IsSo s who p) (sym c.pick.ensures ∙ new) (pick_so r.first r.second p who c.requires.stand) in
    let joins : c.join.result ≡ true = c.in_ok-check-2.ensures in
    let said = c.join.ensures in
    let clear : IsClear (memo_of q who) = clear_joining p.start.geometry p.start who p (memo_of q who) (memo_of q who).call c.geometry.ensures.run so.0 so.1 so.2 (said.gives joins) in
    let client = said.client joins (ap acts so.2) (ap (λ (m : Memo). kind_next m) so.2) in
    rw c.place.ensures.first (rw c.place.ensures.second (stand_placed r.first r.second (Works joined_known) who p q c.requires.stand said.ran.start said.ran.others (known_joined who q (said.at_work joins) client clear)))

pub join-requires : goal.join-requires
join-requires c =
    let r = c.args.run.now in
    let p = r.pool in
    let who = c.in_ok-who.who in
    let new : c.pick.result ≡ New = elim c.match-matches.branch [ in-New w ↦ w.in-New.is | in_default w ↦ absurd (true≢false (sym c.in_ok-check.ensures ∙ w.matches-is)) ] in
    let so : IsSo New who p = subst (λ (s : Standing). IsSo s who p) (sym c.pick.ensures ∙ new) (pick_so r.first r.second p who c.requires.stand) in
    record {
      geometry = c.requires.stand.geometry;
      who = so.0;
      status = inl (ap (λ (m : Memo). m.status) so.2);
      agent = λ e. subst (λ (m : Memo). MayBegin (kind_next m) m) (sym so.2) (inl refl);
    }
