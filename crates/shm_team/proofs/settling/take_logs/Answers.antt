use Rattle.std.proofs.Common.{◌≡◌, ◌≢◌, ◌+◌, ◌++◌, [], ◌∷◌, length, take, refl, sym, ap, ◌∙◌, arith}
use Rattle.std.proofs.lemmas.{List.{get_or-set_other, length-set, take_more}, Option.slice_get_read}
use Rattle.std.specs.Prelude.{Some, None, slice_get, slice_index_or}
use Rattle.shm_script.specs.Values.{Scripted, Traced}
use Rattle.shm_replay.proofs.WholeRun.{apart_at}
use Rattle.shm_team.specs.Dones.{log_of, logs_in}
use Rattle.shm_team.proofs.Telling.{logs_more}
use Rattle.shm_team.proofs.settling.take_logs.Goals as goal

pub loop-script-preserved : goal.loop-script-preserved
loop-script-preserved c =
    let l = c.loop-script in
    let h = l.invariant in
    let g = c.in_ok-take_log.ensures in
    let ss = c.as_slice-script-items.result.now in
    let t = c.args.trace.now in
    let scripts : t.scripts ≡ ss = (let v = ap (λ (t : Traced). t.scripts) c.trace.view_is in cc) in
    let s = c.script-item.result in
    let has : slice_get ss l.script-index ≡ Some s = slice_get_read ss (length ss) l.script-index s refl c.loop-script-test.true c.script-item.is in
    let there : slice_get t.scripts l.script-index ≡ Some s = ap (λ xs. slice_get xs l.script-index) scripts ∙ has in
    let who : s.client ≡ c.script.inside.client = (let v = ap (λ (x : Scripted). x.client) c.script.view_is in cc) in
    let xs = c.args.logs.now in
    let at : slice_index_or l.logs s.client None ≡ slice_index_or xs s.client None = h.left s.client (λ j r lt f. apart_at t.scripts j l.script-index r s c.in_grammar.ensures.apart lt f there) in
    let more : take (l.script-index + 1) t.scripts ≡ take l.script-index t.scripts ++ s ∷ [] =
    ap (take (l.script-index + 1)) scripts ∙ (take_more ss l.script-index s c.loop-script-test.true ∙ (ap (λ r. take l.script-index ss ++ r ∷ []) (sym c.script-item.is) ∙ ap (λ ys. take l.script-index ys ++ s ∷ []) (sym scripts))) in
    record {
      many = ap length g.taken ∙ (length-set l.logs c.script.inside.client None ∙ h.many);
      logs =
          g.ordered
          ∙ (ap (λ ys. ys ++ log_of (slice_index_or l.logs c.script.inside.client None)) h.logs
          ∙ (ap (λ n. logs_in (take l.script-index t.scripts) xs ++ log_of (slice_index_or l.logs n None)) (sym who)
          ∙ (ap (λ o. logs_in (take l.script-index t.scripts) xs ++ log_of o) at
          ∙ (sym (logs_more (take l.script-index t.scripts) s xs) ∙ ap (λ ys. logs_in ys xs) (sym more)))));
      left = λ k f.
          let other : k ≢ c.script.inside.client = (λ e. f l.script-index s (omega arith) there (who ∙ sym e)) in
          ap (λ ys. slice_index_or ys k None) g.taken ∙ (get_or-set_other l.logs c.script.inside.client k None None other ∙ h.left k (λ j r lt e. f j r (omega arith) e));
    }
