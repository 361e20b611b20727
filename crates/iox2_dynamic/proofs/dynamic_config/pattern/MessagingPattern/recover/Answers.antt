use Rattle.iox2_dynamic.proofs.dynamic_config.pattern.MessagingPattern.recover.Goals as goal

pub recover-requires : goal.recover-requires
recover-requires g c = rw c.in-RequestResponse.is at c.requires

pub recover-requires-in-PublishSubscribe : goal.recover-requires-in-PublishSubscribe
recover-requires-in-PublishSubscribe g c = rw c.in-PublishSubscribe.is at c.requires

pub recover-requires-in-Event : goal.recover-requires-in-Event
recover-requires-in-Event g c = rw c.in-Event.is at c.requires

pub recover-requires-in-Blackboard : goal.recover-requires-in-Blackboard
recover-requires-in-Blackboard g c = rw c.in-Blackboard.is at c.requires

pub returns-in-RequestResponse-clause-recovered : goal.returns-in-RequestResponse-clause-recovered
returns-in-RequestResponse-clause-recovered g c =
    rw c.in-RequestResponse.is c.recover.ensures.recovered

pub returns-in-PublishSubscribe-clause-recovered :
    goal.returns-in-PublishSubscribe-clause-recovered
returns-in-PublishSubscribe-clause-recovered g c =
    rw c.in-PublishSubscribe.is c.recover-in-PublishSubscribe.ensures.recovered

pub returns-in-Event-clause-recovered : goal.returns-in-Event-clause-recovered
returns-in-Event-clause-recovered g c = rw c.in-Event.is c.recover-in-Event.ensures.recovered

pub returns-in-Blackboard-clause-recovered : goal.returns-in-Blackboard-clause-recovered
returns-in-Blackboard-clause-recovered g c =
    rw c.in-Blackboard.is c.recover-in-Blackboard.ensures.recovered
