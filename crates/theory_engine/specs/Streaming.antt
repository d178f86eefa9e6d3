-- The engine's stream of a truth table: what it leaves in the output is what the text of the paper leaves there.
-- Assumes nothing.
use Rattle.std.specs.Prelude.{◌≡◌, refl, Bool, true, false, cond, List, [], ◌∷◌, ◌++◌, ℕ, zero, suc, ◌+◌, ◌-◌, ◌≤◌, ◌<◌, ◌^◌, ltb, length, take, drop}
use Rattle.std.proofs.Common.{sym, ap, ap₂, ◌∙◌, subst, append_assoc, zero-mul, arith, length-append, pow_mono, ltb-true, ltb-false, lt-ltb}
use Rattle.std.proofs.Math.Path.{subst⁻¹}
use Rattle.std.proofs.Math.Seq.{take-nil}
use Rattle.theory_lists.specs.Prefixes.{Begins}
use Rattle.theory_reading.specs.Bytes.{dot, line_feed}
use Rattle.theory_reading.specs.Nodes.{stamp}
use Rattle.theory_reading.specs.Limits.{option_limit, table_limit, truth_table_most, digit_limit}
use Rattle.theory_reading.specs.LimitLaws.{truth-options, few-truths}
use Rattle.theory_writing.specs.UniqueTable.{start}
use Rattle.theory_writing.specs.Texts.{decimal, tilde_if}
use Rattle.theory_writing.specs.Run.{head, written_bytes, output_after}
use Rattle.theory_writing.specs.Output.{written-length, written_all, output-length, full-written, full-output}
use Rattle.theory_writing.specs.Calls.{truth_at, write_text}
use Rattle.theory_writing.specs.Steps.{start-sound}
use Rattle.theory_writing.specs.Normal.{start-normal}
use Rattle.theory_writing.specs.Queue.{start-queued}
use Rattle.theory_writing.specs.Online.{Went, waiting, online}
use Rattle.theory_writing.specs.OnlineRuns.{run-online}
use Rattle.theory_engine.specs.Cells.{cell}
use Rattle.theory_engine.specs.Pending.{Waiting, push_all, sent_to, written_to, part_room, waiting_limit}
use Rattle.theory_engine.specs.PendingLaws.{number-length, waiting-room, sent-output, sent-written, sent-full}
use Rattle.theory_engine.specs.Engine.{Walked, Sent, send_text, walk_in, progress_after, end_in, done_in, stream_in}
use Rattle.theory_engine.specs.Keeping.{keeps-start}
use Rattle.theory_engine.specs.Leading.{Stands, Leads}
use Rattle.theory_engine.specs.Meeting.{Fits, online-fits}
use Rattle.theory_engine.specs.Walking.{Ready, part_in, push-ready, part-ready, tilde-length, walk-leads}
use Rattle.node_records.specs.declared.WriterRecord.{WriterRecord}

-- ---- What goes out ---------------------------------------------------------------------------

-- r leaves in the output o what the text y leaves there
pub record Wrote (o y : List ℕ) (r : Sent) : Type 0 where
  pub written : r.written ≡ length (written_bytes y o)
  pub full : r.full ≡ ltb (length o) (length y)
  pub output : r.output ≡ output_after y o

-- after the text T, x goes out
pub send-wrote : (o T x out w : List ℕ) (at m : ℕ) → out ≡ output_after T o → at ≡ length T → length T ≤ length o → take m w ≡ x
    → Wrote o (T ++ x) (send_text out w at m)
send-wrote o T x out w at m e k h z =
    let same : length out ≡ length o = ap length e ∙ output-length T o in
    record {
      written =
          ap₂ (λ (j l : ℕ). written_to out j l) k (ap length z)
          ∙ (let n : written_to out (length T) (length x) ≡ written_to o (length T) (length x) = omega (arith, same) in n)
          ∙ sent-written T x o h;
      full = ap₂ ltb (ap₂ (λ (j l : ℕ). j - l) same k) (ap length z) ∙ sent-full T x o h;
      output = ap₂ (sent_to out) k z ∙ ap (λ (u : List ℕ). sent_to u (length T) x) e ∙ sent-output T x o h;
    }

-- more was sent than the output holds: so it is for all that the text begins
pub full-wrote : (o x y : List ℕ) (r : Sent) → Begins x y → r.full ≡ true → Wrote o x r → Wrote o y r
full-wrote o x y r b f h =
    let over : length o < length x = ltb-true (length o) (length x) (sym h.full ∙ f) in
    let more : length o < length y = omega (arith, over, ap length b.1, length-append x b.0) in
    let same : written_bytes y o ≡ written_bytes x o = full-written x y o b (omega (arith, over)) in
    record {
      written = h.written ∙ ap length (sym same);
      full = f ∙ sym (lt-ltb (length o) (length y) more);
      output =
          h.output ∙ full-output x o (omega (arith, over)) ∙ sym same ∙ sym (full-output y o (omega (arith, more)));
    }

-- nothing has gone out yet
pub none-output : (o : List ℕ) → o ≡ output_after [] o
unfolding output_after written_bytes
none-output o = ap (λ (l : List ℕ). l ++ drop (length l) o) (sym (take-nil (length o)))

-- ---- The whole stream ------------------------------------------------------------------------

-- after the walk, what waits of the outermost node and the point
pub done-wrote : (n size m : ℕ) (o T p w y : List ℕ) (r : Walked) (x : Went) → n ≤ option_limit → Fits n 1 x → m + part_room + 1 ≤ length w
    → y ≡ T ++ ((x.sent ++ waiting p 1 x) ++ (dot ∷ [])) → Leads n size 1 m o T p w r x → Wrote o y (done_in m r)
done-wrote n size m o T p w y r x small fits room e h = go r.progress.full refl
  where
    -- the text, as what the walk sent and what goes out after it
    text : y ≡ (T ++ x.sent) ++ (waiting p 1 x ++ (dot ∷ []))
    text =
        e ∙ ap (λ (l : List ℕ). T ++ l) (append_assoc x.sent (waiting p 1 x) (dot ∷ []))
        ∙ sym (append_assoc T x.sent (waiting p 1 x ++ (dot ∷ [])))

    here : Sent
    here = record { written = r.progress.written; full = r.progress.full; output = r.output; waits = r.waits }

    go : (u : Bool) → r.progress.full ≡ u → Wrote o y (cond u here (end_in m r))
    go true f =
        let over : length o < length (T ++ x.sent) = ltb-true (length o) (length (T ++ x.sent)) (sym h.full ∙ f) in
        full-wrote o (T ++ x.sent) y here (waiting p 1 x ++ (dot ∷ []), text) f
        (record {
          written = h.all f ∙ omega (arith, over, written-length (T ++ x.sent) o);
          full = h.full;
          output = h.output;
        })
    go false f =
        let a = h.after f in
        let e = part_in m (dot ∷ []) r in
        let ready = part-ready n size 1 m o T p (dot ∷ []) r x a fits small (omega arith) (omega (arith, room, h.room)) in
        subst⁻¹ (λ (l : List ℕ). Wrote o l (end_in m r)) text
        (send-wrote o (T ++ x.sent) (waiting p 1 x ++ (dot ∷ [])) r.output e.bytes r.progress.written e.count
        a.stands.output a.stands.written a.stands.holds ready.text)

-- the size and its LF are five bytes at most
pub head-length : (size : ℕ) → size ≤ table_limit → length (head size) ≤ digit_limit + 1
head-length size few =
    omega (arith, few, length-append (decimal size) (line_feed ∷ []), number-length size few)

-- the writer stands at the start, after the size and its LF
pub start-stands : (n size : ℕ) (o : List ℕ) (t : List WriterRecord) (x : Sent) → table_limit ≤ length t
    → ((i k : ℕ) → cell t i k ≡ 0) → Wrote o (head size) x → x.full ≡ false
    → Stands n size o (head size) t x.output (progress_after x) start
start-stands n size o t x long zeros h f =
    let fits = ltb-false (length o) (length (head size)) (sym h.full ∙ f) in
    record {
      keeps = keeps-start t long zeros;
      sound = start-sound;
      normal = start-normal n;
      queued = start-queued;
      most = omega arith;
      written = h.written ∙ ap length (written_all (head size) o fits);
      holds = fits;
      goes_on = f;
      output = h.output;
    }

-- no number has a stamp at the start
pub start-stamp : (k : ℕ) → stamp start.table k ≡ 0
start-stamp zero = refl
start-stamp (suc k) = refl

-- so stamps stay small
start-young : (n : ℕ) → n ≤ truth_table_most → (k : ℕ) → stamp start.table k + 2 ^ n ≤ 4294967295
start-young n h k = omega (arith, start-stamp k, pow_mono {i = n} {j = truth_table_most} h, few-truths)

-- the text of a truth table, as the walk sends it
write-online : (n size : ℕ) (v : List ℕ) →
    let p = tilde_if (truth_at v 0) in
    let x = online size n 1 0 p (truth_at v) start in
    write_text n size v ≡ head size ++ ((x.sent ++ waiting p 1 x) ++ (dot ∷ []))
unfolding write_text
write-online n size v = run-online n size (truth_at v)

-- the engine leaves in the output what the text leaves there
stream-wrote : (n size : ℕ) (v : List ℕ) (t : List WriterRecord) (out w : List ℕ) → n ≤ truth_table_most → size ≤ table_limit → table_limit ≤ length t
    → ((i k : ℕ) → cell t i k ≡ 0) → length w ≡ waiting_limit
    → Wrote out (write_text n size v) (stream_in n size v t out w)
unfolding stream_in
stream-wrote n size v t out w small few long zeros room = go x.full refl
  where
    options : n ≤ option_limit
    options = omega (arith, small, truth-options)

    a : Waiting
    a = push_all w 0 (head size)

    ready : Ready w (0 + length (head size)) (head size) a
    ready = push-ready 0 w [] (head size) refl (omega (arith, head-length size few, room))

    -- after the size and its LF
    x : Sent
    x = send_text out a.bytes 0 a.count

    sent : Wrote out (head size) x
    sent = send-wrote out [] (head size) out a.bytes 0 a.count (none-output out) refl (omega arith) ready.text

    -- the leading `~`
    p : List ℕ
    p = tilde_if (truth_at v 0)

    m : Waiting
    m = push_all a.bytes 0 p

    begun : Ready a.bytes (0 + length p) p m
    begun =
        push-ready 0 a.bytes [] p refl (omega (arith, tilde-length (truth_at v 0), ready.room, room))

    -- the walk
    r : Walked
    r = walk_in v size n 1 0 m.count t x.output m.bytes (progress_after x)

    y : Went
    y = online size n 1 0 p (truth_at v) start

    leads : x.full ≡ false → Leads n size 1 m.count out (head size) p m.bytes r y
    leads f =
        subst (λ (at : ℕ). Leads n size 1 m.count out (head size) p m.bytes
        (walk_in v size n 1 at m.count t x.output m.bytes (progress_after x)) (online size n 1 at p (truth_at v) start))
        (zero-mul (2 ^ n))
        (walk-leads v n size n 1 0 m.count out (head size) p m.bytes t x.output (progress_after x) start (omega arith)
        (omega arith) options few (start-stands n size out t x long zeros sent f) begun.text
        (omega (arith, begun.count, tilde-length (truth_at v 0), begun.room, ready.room, room, waiting-room n options)) (start-young n small))

    go : (u : Bool) → x.full ≡ u → Wrote out (write_text n size v) (cond u x (done_in m.count r))
    go true f = full-wrote out (head size) (write_text n size v) x (_, write-online n size v) f sent
    go false f =
        done-wrote n size m.count out (head size) p m.bytes (write_text n size v) r y options
        (online-fits n size n 1 0 p (truth_at v) start start-sound (start-normal n) (omega arith) (omega arith))
        (omega (arith, begun.count, tilde-length (truth_at v 0), begun.room, ready.room, room, waiting-room n options))
        (write-online n size v) (leads f)

-- how much is written, whether more was sent than the output holds, and the output
pub stream-text : (n size : ℕ) (v : List ℕ) (t : List WriterRecord) (out w : List ℕ) → n ≤ truth_table_most → size ≤ table_limit → table_limit ≤ length t
    → ((i k : ℕ) → cell t i k ≡ 0) → length w ≡ waiting_limit →
    let x = stream_in n size v t out w in
    let y = write_text n size v in
    (x.written ≡ length (written_bytes y out)) × (x.full ≡ ltb (length out) (length y)) × (x.output ≡ output_after y out)
stream-text n size v t out w small few long zeros room =
    let h = stream-wrote n size v t out w small few long zeros room in (h.written, h.full, h.output)
