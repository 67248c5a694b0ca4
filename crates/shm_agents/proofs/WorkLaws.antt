-- what holds of each piece of work before its first word step
use Rattle.std.proofs.Common.{◌≡◌, ℕ, zero, suc, ◌^◌, ◌<◌, ◌≤◌, true, false, List, [], ◌∷◌, get_or, length, refl, sym, subst, arith}
use Rattle.std.specs.{Prelude.{Some, slice_get}, List.AllByRecursion}
use Rattle.shm_words.specs.Layout.{GeometryFits}
use Rattle.shm_graph.specs.declared.{ask.Me.Me, memo.Memo.Memo}
use Rattle.plans.specs.Proved.CallsKeep.{calls_begin}
use Rattle.shm_recover.specs.{Leave.{Control.{leave_parts, leaving}, leave_plan}, Proved.Leave.Gone.idle_may_leave}
use Rattle.shm_recover.specs.Proved.Leave.Laws.{leave_begin, leave_laws}
use Rattle.shm_script.specs.{declared.{line.Line.Line, log.Entry.Entry}, Ranges.LineFits}
use Rattle.shm_script.specs.declared.line.Line.TheVariants as line
use Rattle.shm_table.specs.Command.{CommandFits, LineMayStand, command_control, command_of}
use Rattle.shm_table.specs.Proved.{CopyKey.Laws.{copy_begin, copy_laws}, Del.Laws.{del_begin, del_laws}}
use Rattle.shm_table.specs.Proved.{FetchHead.Laws.fetch_head_laws, Fetch.Laws.fetch_laws}
use Rattle.shm_table.specs.Proved.{Get.Laws.{get_begin, get_laws}, Put.Laws.put_laws}
use Rattle.shm_table.specs.Proved.{RecvKey.Laws.{recv_begin, recv_laws}, SendKey.Laws.{send_key_begin, send_key_laws}}
use Rattle.shm_table.specs.{Proved.TakeHead.Laws.take_head_laws, Commands.MayCommand}
use Rattle.shm_table.specs.{CopyKey.{Control.{copy_parts, copying}, copy_plan}, Del.Control.{del_parts, deleting}}
use Rattle.shm_table.specs.{Del.del_plan, Get.{Control.{get_parts, getting}, get_plan}, Locate.MayLocate}
use Rattle.shm_table.specs.{Put.{Control.{put_parts, putting}, put_plan}, RecvKey.Control.{receiving_key, recv_parts}}
use Rattle.shm_table.specs.{RecvKey.recv_plan, SendKey.{Control.{send_key_parts, sending_key}, send_key_plan}}
use Rattle.shm_agents.specs.{Agents.{IsReady, behind}, Proved.WorkLaws.puts}
use Rattle.shm_agents.specs.Work.{WorkFits, commanding, leave_work, work_control}
pub use Rattle.shm_agents.specs.Proved.WorkLaws.{recoveries, work_laws}

-- ---- what comes behind commands, before its first word step

command_fresh : (me : Me) (l : Line) → command_control.fresh (command_of me l) ≡ true
command_fresh me (line.Put key n) = refl
command_fresh me (line.Copy key a other) = refl
command_fresh me (line.Del key) = refl
command_fresh me (line.Get a key) = refl
command_fresh me (line.Send i key) = refl
command_fresh me (line.Recv s key) = refl

command_going : (me : Me) (l : Line) → command_control.finished (command_of me l) ≡ false
command_going me (line.Put key n) = refl
command_going me (line.Copy key a other) = refl
command_going me (line.Del key) = refl
command_going me (line.Get a key) = refl
command_going me (line.Send i key) = refl
command_going me (line.Recv s key) = refl

command_me : (me : Me) (l : Line) → command_control.me (command_of me l) ≡ me
command_me me (line.Put key n) = refl
command_me me (line.Copy key a other) = refl
command_me me (line.Del key) = refl
command_me me (line.Get a key) = refl
command_me me (line.Send i key) = refl
command_me me (line.Recv s key) = refl

pub behind_fresh : (me : Me) (ls : List Line) (k : ℕ) → work_control.fresh (behind me ls k) ≡ true
behind_fresh me [] k = refl
behind_fresh me (l ∷ ls) zero = command_fresh me l
behind_fresh me (l ∷ ls) (suc k) = behind_fresh me ls k

pub behind_going : (me : Me) (ls : List Line) (k : ℕ) → work_control.finished (behind me ls k) ≡ false
behind_going me [] k = refl
behind_going me (l ∷ ls) zero = command_going me l
behind_going me (l ∷ ls) (suc k) = behind_going me ls k

pub behind_me : (me : Me) (ls : List Line) (k : ℕ) → work_control.me (behind me ls k) ≡ me
behind_me me [] k = refl
behind_me me (l ∷ ls) zero = command_me me l
behind_me me (l ∷ ls) (suc k) = behind_me me ls k

-- the command at its place, and the leaving behind all
pub behind_at : (me : Me) (ls : List Line) (k : ℕ) (d : Line) → k < length ls → behind me ls k ≡ commanding me (get_or ls k d)
behind_at me [] k d l = absurd (omega arith)
behind_at me (l ∷ ls) zero d low = refl
behind_at me (l ∷ ls) (suc k) d low = behind_at me ls k d (omega arith)

pub behind_past : (me : Me) (ls : List Line) (k : ℕ) → length ls ≤ k → behind me ls k ≡ leave_work me
behind_past me [] k far = refl
behind_past me (l ∷ ls) zero far = absurd (omega arith)
behind_past me (l ∷ ls) (suc k) far = behind_past me ls k (omega arith)

-- each line fits
pub line_fits : (clients who : ℕ) (ls : List Line) (k : ℕ) (l : Line) → AllByRecursion (LineFits clients who) ls → slice_get ls k ≡ Some l → LineFits clients who l
line_fits clients who [] k l all at = absurd (cc)
line_fits clients who (x ∷ ls) zero l all at = let e : x ≡ l = cc in subst (LineFits clients who) e all.0
line_fits clients who (x ∷ ls) (suc k) l all at = line_fits clients who ls k l all.1 at

-- ---- a client that may begin

-- the numbers of a line that fits
pub may_stand : (me : Me) (l : Line) → LineFits me.geometry.clients me.who l → LineMayStand me l
may_stand me (line.Put key n) f = tt
may_stand me (line.Del key) f = tt
may_stand me (line.Get a key) f = f.0
may_stand me (line.Copy key a other) f = f.1
may_stand me (line.Send i key) f = (f.0, λ e. f.1 (sym e))
may_stand me (line.Recv s key) f = (f.0, f.1)

module _ (me : Me) (geometry : GeometryFits me.geometry) (who : me.who < me.geometry.clients) (es : List Entry) (r : Memo) (h : IsReady me.who es r) where
  may_command : (key : ℕ) → key < 2 ^ 32 → MayCommand me key r
  may_command key small = record { geometry = geometry; who = who; idle = h.idle; client = h.client; none = h.latch; table = h.table; small = small }

  may_locate : (a : ℕ) → a < me.geometry.clients → MayLocate me a r
  may_locate a l = record { geometry = geometry; who = who; author = l; idle = h.idle; none = h.latch; table = h.table }

  command_fits : (l : Line) → LineFits me.geometry.clients me.who l → CommandFits (command_of me l) r r []
  command_fits (line.Put key n) f = calls_begin put_parts put_plan (put_laws puts) (putting me key n) r refl refl (may_command key f.0, f.1, refl, refl, refl)
  command_fits (line.Copy key a other) f = calls_begin copy_parts copy_plan (copy_laws fetch_laws puts) (copying me key a other) r refl refl (copy_begin me key a other r (record { command = may_command key f.0; author = f.1 }))
  command_fits (line.Del key) f =
      calls_begin del_parts del_plan del_laws (deleting me key) r refl refl (del_begin me key r (record { geometry = geometry; who = who; idle = h.idle; none = h.latch; table = h.table; client = h.client }))
  command_fits (line.Get a key) f = calls_begin get_parts get_plan get_laws (getting me a key) r refl refl (get_begin me a key r (may_locate a f.0))
  command_fits (line.Send i key) f =
      calls_begin send_key_parts send_key_plan send_key_laws (sending_key me i key) r refl refl
      (send_key_begin me i key r (record { locate = may_locate me.who who; client = h.client; to = f.0; other = λ e. f.1 (sym e); none = h.unsent i }))
  command_fits (line.Recv s key) f =
      calls_begin recv_parts recv_plan (recv_laws fetch_head_laws take_head_laws puts) (receiving_key me s key) r refl refl
      (recv_begin me s key r (record { command = may_command key f.2; from = f.0; other = f.1; none = h.untaken s }))

  pub behind_fits : (ls : List Line) (k : ℕ) → AllByRecursion (LineFits me.geometry.clients me.who) ls → WorkFits (behind me ls k) r r []
  behind_fits [] k all =
      calls_begin leave_parts leave_plan leave_laws (leaving me) r refl refl (leave_begin me r (idle_may_leave me r (record { geometry = geometry; who = who }) h.idle h.latch h.dying h.unsent h.untaken))
  behind_fits (l ∷ ls) zero all = command_fits l all.0
  behind_fits (l ∷ ls) (suc k) all = behind_fits ls k all.1
