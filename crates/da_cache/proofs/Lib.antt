mod Found
mod PairLists
mod Standing
mod Users
