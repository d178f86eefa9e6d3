-- A word, a part whose result is fixed or remembered, or two halves that meet.
use Rattle.std.proofs.Common.{refl, sym, ap, ap₂, ◌∙◌, ◌-◌, not, ◌&&◌, None, Some}
use Rattle.std.proofs.Math.Bool.{beq}
use Rattle.theory_writing.specs.Run.{operate}
use Rattle.theory_applying.specs.Memo.{slot_of}
use Rattle.theory_applying.specs.RecallCorrect.{recall-word, recall-constant}
use Rattle.meeting.specs.Abstraction.{half_of, progress_of, walked_of}
use Rattle.meeting.specs.declared.Half.{Half}
use Rattle.operation_cache.specs.Abstraction.{rows_of}
use Rattle.applier.specs.Abstraction.{recalled_of}
use Rattle.applier.specs.WalkCorrect.{pair, one_down, unlike, not-both, pair-told, pair-full, pair-on, pair-again}
use Rattle.applier.proofs.+walk.Goals as goal
use Rattle.applier.proofs.+walk.Goals.{then-d-eq0-via-then-d-eq0, then-d-eq0-via-else-d-eq0+then-is_fixed}

pub returns-then-d-eq0-clause-walked : goal.returns-then-d-eq0-clause-walked
returns-then-d-eq0-clause-walked t c =
    let a = c.args in
    let s = c.args.to.now in
    let xs = pair a.x a.t1.now a.y a.t2.now in
    ap (λ (h : Half). recalled_of (record { progress = a.progress; half = h }) s a.cache.now) c.constant-half.ensures
    ∙ elim c.then-d-eq0.branch [
      | then-d-eq0-via-then-d-eq0 w ↦
          recall-word slot_of (operate a.k.op) a.k.size a.d a.i a.m xs (rows_of a.cache.now) s.table.now s.out.now s.waiting.now
          (progress_of a.progress) c.operate.result w.if-d-eq0.true c.operate.ensures
      | then-d-eq0-via-else-d-eq0+then-is_fixed w ↦
          recall-constant slot_of (operate a.k.op) a.k.size (a.d - 1) a.i a.m xs (rows_of a.cache.now) s.table.now s.out.now s.waiting.now
          (progress_of a.progress) a.d c.operate.result (one_down a.d w.if-d-eq0.false)
          (sym (w.is_fixed.ensures a.t1.now a.t2.now) ∙ w.if-is_fixed.true) c.operate.ensures
    ]

pub returns-in-Some-clause-walked : goal.returns-in-Some-clause-walked
returns-in-Some-clause-walked t c =
    let a = c.args in
    let s = c.args.to.now in
    pair-told a.k.op a.k.size (a.d - 1) a.i a.m a.x a.y a.t1.now a.t2.now (rows_of a.cache.now) s.table.now s.out.now s.waiting.now
    (progress_of a.progress) a.d (one_down a.d c.if-d-eq0.false) (sym (c.is_fixed.ensures a.t1.now a.t2.now) ∙ c.if-is_fixed.false)
    c.get-r1.result c.get-r2.result c.get-r1.ensures c.get-r2.ensures c.key_of-key.result c.key_of-key.ensures c.slot-s.result c.slot-s.ensures
    (Some c.in-Some.half) c.in-Some.ensures c.in-Some.half refl

pub returns-then-a-clause-walked : goal.returns-then-a-clause-walked
returns-then-a-clause-walked t c =
    let a = c.args in
    let s = c.args.to.now in
    pair-full a.k.op a.k.size (a.d - 1) a.i a.m a.x a.y a.t1.now a.t2.now (rows_of a.cache.now) s.table.now s.out.now s.waiting.now
    (progress_of a.progress) a.d (one_down a.d c.if-d-eq0.false) (sym (c.is_fixed.ensures a.t1.now a.t2.now) ∙ c.if-is_fixed.false)
    c.get-r1.result c.get-r2.result c.get-r1.ensures c.get-r2.ensures c.key_of-key.result c.key_of-key.ensures c.slot-s.result c.slot-s.ensures
    None c.in_default.ensures refl c.first_edge-x1.result c.first_edge-y1.result
    (record { bytes = c.push-p.new.w; count = c.push-p.result }) (recalled_of c.walk-a.result c.walk-a.new.to c.walk-a.new.cache)
    c.first_edge-x1.ensures c.first_edge-y1.ensures c.push-p.ensures c.walk-a.ensures.walked
    (progress_of c.walk-a.result.progress) refl c.if-a.true

pub returns-then-pass-clause-walked : goal.returns-then-pass-clause-walked
returns-then-pass-clause-walked t c =
    let a = c.args in
    let s = c.args.to.now in
    pair-again a.k.op a.k.size (a.d - 1) a.i a.m a.x a.y a.t1.now a.t2.now (rows_of a.cache.now) s.table.now s.out.now s.waiting.now
    (progress_of a.progress) a.d (one_down a.d c.if-d-eq0.false) (sym (c.is_fixed.ensures a.t1.now a.t2.now) ∙ c.if-is_fixed.false)
    c.get-r1.result c.get-r2.result c.get-r1.ensures c.get-r2.ensures c.key_of-key.result c.key_of-key.ensures c.slot-s.result c.slot-s.ensures
    None c.in_default.ensures refl c.first_edge-x1.result c.first_edge-y1.result
    (record { bytes = c.push-p.new.w; count = c.push-p.result }) (recalled_of c.walk-a.result c.walk-a.new.to c.walk-a.new.cache)
    c.first_edge-x1.ensures c.first_edge-y1.ensures c.push-p.ensures c.walk-a.ensures.walked
    (half_of c.walk-a.result.half) (progress_of c.walk-a.result.progress) c.both_pass-pass.result c.second_edge-x2.result
    c.second_edge-y2.result c.operate-v.result (not (beq c.walk-a.result.half.complement c.operate-v.result))
    (record { bytes = c.wait-q.new.w; count = c.wait-q.result })
    (record { bytes = c.push_tilde-waiting.new.w; count = c.push_tilde-waiting.result })
    (recalled_of (record { progress = c.walk-a.result.progress; half = c.numbered.result }) (record c.walk-a.new.to { waiting = record c.walk-a.new.to.waiting { now = c.push_tilde-waiting.new.w } }) c.walk-a.new.cache)
    (walked_of c.second.result c.second.new.to.table.now c.second.new.to.out.now c.second.new.to.waiting.now)
    refl refl c.if-a.false c.both_pass-pass.ensures
    c.second_edge-x2.ensures c.second_edge-y2.ensures c.operate-v.ensures (unlike c.walk-a.result.half.complement c.operate-v.result) c.wait-q.ensures
    c.push_tilde-waiting.ensures c.second.ensures.walked (ap₂ ◌&&◌ c.if-not-h.true c.if-pass.true)
    (ap (λ (h : Half). recalled_of (record { progress = c.walk-a.result.progress; half = h }) (record c.walk-a.new.to { waiting = record c.walk-a.new.to.waiting { now = c.push_tilde-waiting.new.w } }) c.walk-a.new.cache) c.numbered.ensures)

pub returns-clause-walked : goal.returns-clause-walked
returns-clause-walked t c =
    let a = c.args in
    let s = c.args.to.now in
    pair-on a.k.op a.k.size (a.d - 1) a.i a.m a.x a.y a.t1.now a.t2.now (rows_of a.cache.now) s.table.now s.out.now s.waiting.now
    (progress_of a.progress) a.d (one_down a.d c.if-d-eq0.false) (sym (c.is_fixed.ensures a.t1.now a.t2.now) ∙ c.if-is_fixed.false)
    c.get-r1.result c.get-r2.result c.get-r1.ensures c.get-r2.ensures c.key_of-key.result c.key_of-key.ensures c.slot-s.result c.slot-s.ensures
    None c.in_default.ensures refl c.first_edge-x1.result c.first_edge-y1.result
    (record { bytes = c.push-p.new.w; count = c.push-p.result }) (recalled_of c.walk-a.result c.walk-a.new.to c.walk-a.new.cache)
    c.first_edge-x1.ensures c.first_edge-y1.ensures c.push-p.ensures c.walk-a.ensures.walked
    (half_of c.walk-a.result.half) (progress_of c.walk-a.result.progress) c.both_pass-pass.result c.second_edge-x2.result
    c.second_edge-y2.result c.operate-v.result (not (beq c.walk-a.result.half.complement c.operate-v.result))
    (record { bytes = c.wait-q.new.w; count = c.wait-q.result })
    (record { bytes = c.push_tilde-waiting.new.w; count = c.push_tilde-waiting.result })
    (recalled_of c.walk-b.result c.walk-b.new.to c.walk-b.new.cache)
    (walked_of c.second-both.result c.second-both.new.to.table.now c.second-both.new.to.out.now c.second-both.new.to.waiting.now)
    refl refl c.if-a.false c.both_pass-pass.ensures
    c.second_edge-x2.ensures c.second_edge-y2.ensures c.operate-v.ensures (unlike c.walk-a.result.half.complement c.operate-v.result) c.wait-q.ensures
    c.push_tilde-waiting.ensures c.second-both.ensures.walked (not-both _ _ c.else-not-h.either)
    c.walk-b.ensures.walked (rows_of c.note.new.c) c.note.ensures
