pub mod BallotLists
