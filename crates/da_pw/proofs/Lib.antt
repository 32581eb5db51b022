mod PwLemmas
