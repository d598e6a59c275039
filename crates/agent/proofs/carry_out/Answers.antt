-- Right because the function of each group leaves what its command leaves. Assumes nothing.
use Rattle.agent.proofs.carry_out.Goals as goal

pub returns-in-Stream : goal.returns-in-Stream
returns-in-Stream c = rw c.in-Stream.is (c.on_streams.ensures c.args.store.now)

pub returns-in-Pipeline : goal.returns-in-Pipeline
returns-in-Pipeline c = rw c.in-Pipeline.is (c.on_pipeline.ensures c.args.store.now)
