use Rattle.nd_shared.proofs.Joining.{joins, keeps, consistent, ready_joined}
use Rattle.nd_shared.proofs.tree.Tree.join.Goals as goal

pub returns-clause-ready : goal.returns-clause-ready
returns-clause-ready c = ready_joined c.args.self.now.rows c.args.pass.now c.args.other c.join.new.pass c.requires.ready c.requires.other c.join.ensures.pass c.join.ensures.number c.join.ensures.joined c.join.ensures.consistent c.join.ensures.marks c.join.ensures.work

pub returns-clause-joins : goal.returns-clause-joins
returns-clause-joins c = joins c.args.self.now.rows c.args.pass.now c.args.other c.join.new.pass c.requires.ready c.requires.other c.join.ensures.pass c.join.ensures.number c.join.ensures.joined

pub returns-clause-consistent : goal.returns-clause-consistent
returns-clause-consistent c = consistent c.args.self.now.rows c.args.pass.now c.args.other c.join.new.pass c.requires.ready c.requires.other c.join.ensures.pass c.join.ensures.number c.join.ensures.joined c.join.ensures.consistent

pub returns-clause-full : goal.returns-clause-full
returns-clause-full c = keeps c.args.self.now.rows c.args.pass.now c.args.other c.join.new.pass c.requires.ready c.requires.other c.join.ensures.pass c.join.ensures.number c.join.ensures.joined
